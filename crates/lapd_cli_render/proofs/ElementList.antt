-- The elements of a message, one by one.
use Rattle.std.proofs.Common.{◌≡◌, ◌≢◌, ◌⊎◌, inl, inr, ℕ, zero, suc, ◌+◌, ◌/◌, ◌≤◌, ◌<◌, ◌++◌, ◌==◌, ◌||◌, Bool, true, false, List, [], ◌∷◌, length, get_or, take, drop, nat_lt, if◌then◌else◌, refl, sym, ap, ◌∙◌, append_assoc, arith}
use Rattle.std.specs.List.{flat_map}
use Rattle.std.proofs.lemmas.Bool.Decides.{nat_tests}
use Rattle.std.proofs.lemmas.List.{append-nil}
use Rattle.lapd_cli_render.specs.Elements.{element_text, elements_after, elements_in, elements_text, ends_list, octets_behind}

-- octets of the element before are dropped
after_skipped : (skipped : ℕ) (octets : List ℕ)
    → elements_after skipped octets ≡ elements_in (drop skipped octets)
unfolding elements_after
after_skipped zero octets = refl
after_skipped (suc skipped) [] = refl
after_skipped (suc skipped) (octet ∷ octets) = after_skipped skipped octets

-- by whether the first element ends the list
abbrev by_end : ℕ → List ℕ → Bool → List (List ℕ)
by_end first rest ends =
    if ends then []
    else (first ∷ take (octets_behind first rest) rest)
    ∷ elements_after (octets_behind first rest) rest

at_first : (first : ℕ) (rest : List ℕ)
    → elements_in (first ∷ rest) ≡ by_end first rest (ends_list first rest)
unfolding elements_after
at_first first rest = refl

or_true : (b : Bool) → (b || true) ≡ true
or_true true = refl
or_true false = refl

ends_if : (first count : ℕ) (rest : List ℕ) → count ≡ octets_behind first rest
    → (first / 16 ≡ 9) ⊎ (length rest < count) → ends_list first rest ≡ true
ends_if first count rest is (inl e) =
    let shift : (first / 16 == 9) ≡ true = grind (arith, nat_tests) in
    ap (λ b. b || nat_lt (length rest) (octets_behind first rest)) shift
ends_if first count rest is (inr h) =
    let cut : nat_lt (length rest) count ≡ true = grind (arith, nat_tests) in
    ap (λ b. (first / 16 == 9) || b) (ap (λ n. nat_lt (length rest) n) (sym is) ∙ cut)
    ∙ or_true (first / 16 == 9)

goes_on_if : (first count : ℕ) (rest : List ℕ) → count ≡ octets_behind first rest → first / 16 ≢ 9
    → count ≤ length rest → ends_list first rest ≡ false
goes_on_if first count rest is e h =
    let no_shift : (first / 16 == 9) ≡ false = grind (arith, nat_tests) in
    let whole : nat_lt (length rest) count ≡ false = grind (arith, nat_tests) in
    ap (λ b. b || nat_lt (length rest) (octets_behind first rest)) no_shift
    ∙ (ap (λ n. nat_lt (length rest) n) (sym is) ∙ whole)

pub none_in_nil : (octets : List ℕ) → length octets < 1 → elements_in octets ≡ []
unfolding elements_after
none_in_nil [] h = refl
none_in_nil (octet ∷ octets) h = absurd (omega arith)

-- the list ends at its first element
pub none_at_end : (octets : List ℕ) (count : ℕ) → 1 ≤ length octets
    → count ≡ octets_behind (get_or octets 0 0) (drop 1 octets)
    → (get_or octets 0 0 / 16 ≡ 9) ⊎ (length (drop 1 octets) < count) → elements_in octets ≡ []
none_at_end [] count h is ends = absurd (omega arith)
none_at_end (first ∷ rest) count h is ends =
    at_first first rest ∙ ap (by_end first rest) (ends_if first count rest is ends)

-- the first element is whole
pub one_more : (octets element behind : List ℕ) (count : ℕ) → 1 ≤ length octets
    → count ≡ octets_behind (get_or octets 0 0) (drop 1 octets)
    → get_or octets 0 0 / 16 ≢ 9 → count ≤ length (drop 1 octets)
    → element ≡ take (1 + count) octets → behind ≡ drop (1 + count) octets
    → elements_in octets ≡ element ∷ elements_in behind
one_more [] element behind count h is no_shift whole is_element is_behind = absurd (omega arith)
one_more (first ∷ rest) element behind count h is no_shift whole is_element is_behind =
    let e : suc count ≡ 1 + count = omega arith in
    let k = octets_behind first rest in
    let others : by_end first rest false ≡ (first ∷ take k rest) ∷ elements_in (drop k rest) =
    ap (λ others. (first ∷ take k rest) ∷ others) (after_skipped k rest) in
    let counted : (first ∷ take k rest) ∷ elements_in (drop k rest)
    ≡ take (suc count) (first ∷ rest) ∷ elements_in (drop (suc count) (first ∷ rest))
    = ap (λ n. (first ∷ take n rest) ∷ elements_in (drop n rest)) (sym is) in
    at_first first rest ∙ ap (by_end first rest) (goes_on_if first count rest is no_shift whole)
    ∙ others ∙ counted
    ∙ ap (λ n. take n (first ∷ rest) ∷ elements_in (drop n (first ∷ rest))) e
    ∙ ap (λ x. x ∷ elements_in (drop (1 + count) (first ∷ rest))) (sym is_element)
    ∙ ap (λ x. element ∷ elements_in x) (sym is_behind)

-- the text of the first element is appended
pub text_more : (text new initial rest element behind : List ℕ) → new ≡ text ++ element_text element
    → elements_in rest ≡ element ∷ elements_in behind
    → text ++ elements_text rest ≡ initial → new ++ elements_text behind ≡ initial
unfolding elements_text
text_more text new initial rest element behind pushed e before =
    let more : elements_text rest ≡ element_text element ++ elements_text behind =
    ap (flat_map element_text) e in
    ap (λ x. x ++ elements_text behind) pushed
    ∙ append_assoc text (element_text element) (elements_text behind)
    ∙ ap (λ x. text ++ x) (sym more) ∙ before

pub text_ends : (text initial rest : List ℕ) → elements_in rest ≡ []
    → text ++ elements_text rest ≡ initial → text ≡ initial
unfolding elements_text
text_ends text initial rest e before =
    let none : elements_text rest ≡ [] = ap (flat_map element_text) e in
    sym (append-nil text) ∙ ap (λ x. text ++ x) (sym none) ∙ before
