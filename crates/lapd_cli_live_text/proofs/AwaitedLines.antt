-- The first word of a line, and the words of a line one octet further.
use Rattle.std.proofs.Common.{arith, ◌≡◌, ◌≢◌, ℕ, ◌-◌, ◌==◌, ◌&&◌, List, [], ◌∷◌, ◌++◌, length, take, drop, Bool, true, false, None, Some, option_and_then, refl, sym, ap, ◌∙◌, if◌then◌else◌}
use Rattle.std.specs.Prelude.{is_some, nat_eq}
use Rattle.std.specs.List.{AllByRecursion, starts_with}
use Rattle.std.proofs.lemmas.Bool.{ne_eqb}
use Rattle.std.proofs.lemmas.List.{length-drop, take_all}
use Rattle.lapd_cli_script.specs.Line.{HasNoSpace}
use Rattle.lapd_cli_live_text.specs.AwaitedLine.{begins_as, behind_word, behind_words, first_word}

-- the octets from a place on
rest_is : (at : ℕ) (octets : List ℕ) → take (length octets - at) (drop at octets) ≡ drop at octets
rest_is at octets =
    take_all (length octets - at) (drop at octets) (omega (arith, length-drop at octets))

first_of : (word rest : List ℕ) → HasNoSpace word → first_word (word ++ 32 ∷ rest) ≡ word
first_of [] rest h = refl
first_of (octet ∷ word) rest h = rw (ne_eqb _ _ h.0, first_of word rest h.1) refl

behind_of : (word rest : List ℕ) → HasNoSpace word → behind_word (word ++ 32 ∷ rest) ≡ 32 ∷ rest
behind_of [] rest h = refl
behind_of (octet ∷ word) rest h = rw (ne_eqb _ _ h.0, behind_of word rest h.1) refl

pub first_whole : (word : List ℕ) → HasNoSpace word → word ≡ first_word word
first_whole [] h = refl
first_whole (octet ∷ word) h =
    rw (ne_eqb _ _ h.0) (ap (λ rest. octet ∷ rest) (first_whole word h.1))

pub behind_whole : (word : List ℕ) → HasNoSpace word → [] ≡ behind_word word
behind_whole [] h = refl
behind_whole (octet ∷ word) h = rw (ne_eqb _ _ h.0) (behind_whole word h.1)

pub first_at : (line word behind : List ℕ) → HasNoSpace word → line ≡ word ++ 32 ∷ behind
    → word ≡ first_word line
first_at line word behind h e = sym (ap first_word e ∙ first_of word behind h)

drop_word : (word rest : List ℕ) → drop (length word) (word ++ rest) ≡ rest
drop_word [] rest = refl
drop_word (octet ∷ word) rest = drop_word word rest

pub behind_at : (line word behind : List ℕ) → HasNoSpace word → line ≡ word ++ 32 ∷ behind
    → take (length line - length word) (drop (length word) line) ≡ behind_word line
behind_at line word behind h e =
    rest_is (length word) line ∙ ap (drop (length word)) e ∙ drop_word word (32 ∷ behind)
    ∙ sym (ap behind_word e ∙ behind_of word behind h)

-- ---- Words without a star.

same_octet : (same : Bool) (words line : List ℕ)
    → begins_as words line ≡ starts_with nat_eq line words
    → is_some (option_and_then (behind_words words) (if same then Some line else None))
    ≡ (same && starts_with nat_eq line words)
same_octet true words line h = h
same_octet false words line h = refl

pub plain : (words line : List ℕ) → AllByRecursion (λ octet. octet ≢ 42) words
    → begins_as words line ≡ starts_with nat_eq line words
plain [] line h = refl
plain (octet ∷ words) [] h = rw (ne_eqb _ _ h.0) refl
plain (octet ∷ words) (first ∷ line) h =
    rw (ne_eqb _ _ h.0) (same_octet (octet == first) words line (plain words line h.1))
