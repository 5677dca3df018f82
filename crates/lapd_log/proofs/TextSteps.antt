-- Steps of the search in a text.
use Rattle.std.proofs.Common.{◌≡◌, ℕ, ◌≤◌, Bool, true, false, cond, nat_lt, List, ◌∷◌, Some, None, length, not, take, drop, unwrap_or, refl, sym, ap, ◌∙◌, arith}
use Rattle.std.specs.List.{position, position_or_len}
use Rattle.std.specs.Str.{bytes_eq}
use Rattle.std.proofs.lemmas.Grind.{common_steps}
use Rattle.std.proofs.lemmas.List.Sums.{prefix_len-le-length}
use Rattle.lapd_log.specs.Text.{behind}

-- ---- The place of the first octet that passes.

unwrap_cut : (a n : ℕ) → a ≤ n → unwrap_or (cond (nat_lt a n) (Some a) None) n ≡ a
unwrap_cut a n h = grind (arith, common_steps)

pub unwrap_place : (test : ℕ → Bool) (xs : List ℕ)
    → unwrap_or (position test xs) (length xs) ≡ position_or_len test xs
unwrap_place test xs =
    unwrap_cut (position_or_len test xs) (length xs) (prefix_len-le-length (λ x. not (test x)) xs)

-- ---- The first occurrence of a word.

pub word_passed : (word rest next : List ℕ) (octet : ℕ) → rest ≡ octet ∷ next
    → bytes_eq (take (length word) rest) word ≡ false → behind word rest ≡ behind word next
word_passed word rest next octet e fails =
    ap (behind word) e
    ∙ (let here : bytes_eq (take (length word) (octet ∷ next)) word ≡ false =
    ap (λ xs. bytes_eq (take (length word) xs) word) (sym e) ∙ fails in rw here refl)

pub word_found : (word rest next : List ℕ) (octet : ℕ) → rest ≡ octet ∷ next
    → bytes_eq (take (length word) rest) word ≡ true
    → behind word rest ≡ Some (drop (length word) rest)
word_found word rest next octet e found =
    ap (behind word) e
    ∙ (let here : bytes_eq (take (length word) (octet ∷ next)) word ≡ true =
    ap (λ xs. bytes_eq (take (length word) xs) word) (sym e) ∙ found in
    rw here (ap (λ xs. Some (drop (length word) xs)) (sym e)))
