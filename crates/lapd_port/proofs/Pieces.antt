-- A text that is written piece by piece, one after the other.
use Rattle.std.proofs.Common.{◌≡◌, ◌<◌, ◌-◌, ℕ, List, ◌++◌, length, take, drop, sym, ap, ◌∙◌, append_assoc, take-append-drop, Option}
use Rattle.std.proofs.lemmas.List.{take_rest}
use Rattle.std.specs.Io.KnownBytes.{Appends, Keeps}
use Rattle.std.proofs.KnownBytes.{Appends-trans, Appends-kept}

-- a front of the text is written, and this rest, which is not empty, is not written
abbrev pub IsLeft : List ℕ → List ℕ → Option (List ℕ) → Option (List ℕ) → Type 0
IsLeft text rest old new =
    ((front : List ℕ) × (text ≡ front ++ rest) × Appends old new front) × (0 < length rest)

-- one more piece is written
pub left_after : (text rest : List ℕ) (count : ℕ) (old mid new : Option (List ℕ))
    → IsLeft text rest old mid → Appends mid new (take count rest)
    → 0 < length (take (length rest - count) (drop count rest))
    → IsLeft text (take (length rest - count) (drop count rest)) old new
left_after text rest count old mid new left piece some =
    let front = left.0.0 in
    let e : text ≡ (front ++ take count rest) ++ take (length rest - count) (drop count rest) =
    left.0.1 ∙ ap (λ l. front ++ l) (sym (take-append-drop count rest))
    ∙ sym (append_assoc front (take count rest) (drop count rest))
    ∙ ap (λ l. (front ++ take count rest) ++ l) (sym (take_rest rest count)) in (
      (
        front ++ take count rest,
        e,
        Appends-trans old mid new front (take count rest) left.0.2 piece,
      ),
      some,
    )

-- nothing more is written
pub left_preserved : (text rest : List ℕ) (old mid new : Option (List ℕ)) → IsLeft text rest old mid
    → Keeps mid new → IsLeft text rest old new
left_preserved text rest old mid new left unchanged =
    ((left.0.0, left.0.1, Appends-kept old mid new left.0.0 left.0.2 unchanged), left.1)
