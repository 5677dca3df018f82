-- Lemmas on hexadecimal text that is written piece by piece.
use Rattle.std.proofs.Common.{◌≡◌, ℕ, ◌/◌, ◌%◌, List, [], ◌∷◌, ◌++◌, length, slice_index, take, drop, refl, sym, ap, ◌∙◌, append-nil, take-append-drop, arith}
use Rattle.hex.specs.Hex.{encode_with, encode_lower, lower_digits}

encode_with-append : (t a b : List ℕ) → encode_with t (a ++ b) ≡ encode_with t a ++ encode_with t b
unfolding encode_with
encode_with-append t [] b = refl
encode_with-append t (x ∷ a) b =
    ap (λ s. slice_index t (x / 16) ∷ slice_index t (x % 16) ∷ s) (encode_with-append t a b)

-- the text of the first n octets, followed by the text of the rest, is the text of all octets
pub encode_lower-split : (n : ℕ) (octets : List ℕ)
    → encode_lower (take n octets) ++ encode_lower (drop n octets) ≡ encode_lower octets
encode_lower-split n octets =
    sym (encode_with-append lower_digits (take n octets) (drop n octets))
    ∙ ap encode_lower (take-append-drop n octets)

-- when nothing is left to write, the text is complete
pub encode_lower-done : (text left : List ℕ) → length left ≡ 0 → text ++ encode_lower left ≡ text
unfolding encode_with
encode_lower-done text [] h = append-nil text
encode_lower-done text (o ∷ left) h = absurd (omega arith)
