-- A text to which four parts were appended, one after another.
use Rattle.std.proofs.Common.{◌≡◌, ◌∙◌, ◌++◌, List, ap, append_assoc}

pub four_parts : {A : Type 0} (a b c d t₀ : List A) {t₁ t₂ t₃ t₄ : List A} → t₁ ≡ t₀ ++ a
    → t₂ ≡ t₁ ++ b → t₃ ≡ t₂ ++ c → t₄ ≡ t₃ ++ d → t₄ ≡ t₀ ++ (a ++ b ++ c ++ d)
four_parts {A = A} a b c d t₀ first second third fourth =
    let two = second ∙ ap (λ (t : List A). t ++ b) first ∙ append_assoc t₀ a b in
    let three = third ∙ ap (λ (t : List A). t ++ c) two ∙ append_assoc t₀ (a ++ b) c in
    fourth ∙ ap (λ (t : List A). t ++ d) three ∙ append_assoc t₀ (a ++ b ++ c) d
