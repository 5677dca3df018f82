-- The head of the first block, in its two parts.
use Rattle.std.proofs.Common.{◌≡◌, ℕ, List, [], ◌∷◌, ◌++◌, refl, length, slice_index_or, arith}

pub joined : (a b : List ℕ) → length a ≡ 4 → length b ≡ 8
    → slice_index_or a 0 0 ∷ slice_index_or a 1 0 ∷ slice_index_or a 2 0 ∷ slice_index_or a 3 0
    ∷ slice_index_or b 0 0 ∷ slice_index_or b 1 0
    ∷ slice_index_or b 2 0 ∷ slice_index_or b 3 0 ∷ slice_index_or b 4 0 ∷ slice_index_or b 5 0
    ∷ slice_index_or b 6 0 ∷ slice_index_or b 7 0 ∷ [] ≡ a ++ b
joined (a0 ∷ a1 ∷ a2 ∷ a3 ∷ []) (b0 ∷ b1 ∷ b2 ∷ b3 ∷ b4 ∷ b5 ∷ b6 ∷ b7 ∷ []) p q = refl
joined [] b p q = absurd (omega arith)
joined (a0 ∷ []) b p q = absurd (omega arith)
joined (a0 ∷ a1 ∷ []) b p q = absurd (omega arith)
joined (a0 ∷ a1 ∷ a2 ∷ []) b p q = absurd (omega arith)
joined (a0 ∷ a1 ∷ a2 ∷ a3 ∷ a4 ∷ more) b p q = absurd (omega arith)
joined (a0 ∷ a1 ∷ a2 ∷ a3 ∷ []) [] p q = absurd (omega arith)
joined (a0 ∷ a1 ∷ a2 ∷ a3 ∷ []) (b0 ∷ []) p q = absurd (omega arith)
joined (a0 ∷ a1 ∷ a2 ∷ a3 ∷ []) (b0 ∷ b1 ∷ []) p q = absurd (omega arith)
joined (a0 ∷ a1 ∷ a2 ∷ a3 ∷ []) (b0 ∷ b1 ∷ b2 ∷ []) p q = absurd (omega arith)
joined (a0 ∷ a1 ∷ a2 ∷ a3 ∷ []) (b0 ∷ b1 ∷ b2 ∷ b3 ∷ []) p q = absurd (omega arith)
joined (a0 ∷ a1 ∷ a2 ∷ a3 ∷ []) (b0 ∷ b1 ∷ b2 ∷ b3 ∷ b4 ∷ []) p q = absurd (omega arith)
joined (a0 ∷ a1 ∷ a2 ∷ a3 ∷ []) (b0 ∷ b1 ∷ b2 ∷ b3 ∷ b4 ∷ b5 ∷ []) p q = absurd (omega arith)
joined (a0 ∷ a1 ∷ a2 ∷ a3 ∷ []) (b0 ∷ b1 ∷ b2 ∷ b3 ∷ b4 ∷ b5 ∷ b6 ∷ []) p q = absurd (omega arith)
joined (a0 ∷ a1 ∷ a2 ∷ a3 ∷ []) (b0 ∷ b1 ∷ b2 ∷ b3 ∷ b4 ∷ b5 ∷ b6 ∷ b7 ∷ b8 ∷ more) p q =
    absurd (omega arith)
