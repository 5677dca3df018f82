-- Elements of a list by index.
use Rattle.std.proofs.Common.{◌≡◌, ℕ, ◌==◌, zero, suc, Bool, true, false, List, [], ◌∷◌, set, Some, refl, ap, arith}
use Rattle.std.specs.Prelude.{slice_get}
use Rattle.std.proofs.lemmas.Bool.Decides.{nat_tests}

pub set_here : {X : Type 0} (xs : List X) (i : ℕ) (y x : X) → slice_get xs i ≡ Some x
    → slice_get (set xs i y) i ≡ Some y
set_here [] i y x there = cc
set_here (z ∷ zs) zero y x there = refl
set_here (z ∷ zs) (suc i) y x there = set_here zs i y x there

pub set_there : {X : Type 0} (xs : List X) (j i : ℕ) (y : X) → (j ≡ i → ⊥)
    → slice_get (set xs j y) i ≡ slice_get xs i
set_there [] j i y apart = refl
set_there (z ∷ zs) zero zero y apart = absurd (apart refl)
set_there (z ∷ zs) zero (suc i) y apart = refl
set_there (z ∷ zs) (suc j) zero y apart = refl
set_there (z ∷ zs) (suc j) (suc i) y apart = set_there zs j i y (λ e. apart (ap suc e))

pub same_index : (i : ℕ) → (i == i) ≡ true
same_index i = grind (arith, nat_tests)

pub equal_index : (j i : ℕ) → (j == i) ≡ true → j ≡ i
equal_index j i is = grind (arith, nat_tests, is)

pub apart_index : (j i : ℕ) → (j == i) ≡ false → j ≡ i → ⊥
apart_index j i is e = grind (arith, nat_tests, is, e)
