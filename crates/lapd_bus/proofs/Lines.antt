-- Octets in transit as lists.
use Rattle.std.proofs.Common.{◌≡◌, ℕ, ◌+◌, zero, suc, List, [], ◌∷◌, map, length, drop, ◌≤◌, ◌<◌, Some, refl, sym, ap, ◌∙◌, arith}
use Rattle.std.proofs.lemmas.List.{drop-drop, drop-map}
use Rattle.std.specs.List.{remove}
use Rattle.std.specs.Prelude.{slice_get}

pub map_remove : {X Y : Type 0} (f : X → Y) (xs : List X) (i : ℕ)
    → map f (remove xs i) ≡ remove (map f xs) i
map_remove f [] zero = refl
map_remove f [] (suc i) = refl
map_remove f (x ∷ xs) zero = refl
map_remove {Y = Y} f (x ∷ xs) (suc i) = ap (λ (ys : List Y). f x ∷ ys) (map_remove f xs i)

pub remove_past : {X : Type 0} (xs : List X) (i : ℕ) → length xs ≤ i → remove xs i ≡ xs
remove_past [] zero past = refl
remove_past [] (suc i) past = refl
remove_past {X} (x ∷ xs) zero past = (let no : ⊥ = omega arith in absurd no)
remove_past {X} (x ∷ xs) (suc i) past =
    let rest : length xs ≤ i = omega arith in
    ap (λ (ys : List X). x ∷ ys) (remove_past xs i rest)

pub first_of : {X : Type 0} (xs : List X) (x : X) → slice_get xs 0 ≡ Some x
    → xs ≡ x ∷ drop 1 xs
first_of [] x there = cc
first_of {X} (y ∷ ys) x there = (let e : y ≡ x = cc in ap (λ (z : X). z ∷ ys) e)

pub some_there : {X : Type 0} (xs : List X) (x : X) → slice_get xs 0 ≡ Some x → 0 < length xs
some_there [] x there = cc
some_there (y ∷ ys) x there = omega arith

-- the items from index n on, without the one at index i among them
pub drop_remove : {X : Type 0} (xs : List X) (n i : ℕ)
    → drop n (remove xs (n + i)) ≡ remove (drop n xs) i
drop_remove xs zero i = ap (remove xs) (omega arith)
drop_remove [] (suc n) i =
    ap (drop (suc n)) (remove_past [] (suc n + i) (omega arith)) ∙ sym (remove_past [] i (omega arith))
drop_remove (x ∷ xs) (suc n) i =
    let next : suc n + i ≡ suc (n + i) = omega arith in rw next (drop_remove xs n i)

-- from one index later on
pub map_next : {X Y : Type 0} (f : X → Y) (n : ℕ) (xs : List X)
    → map f (drop (n + 1) xs) ≡ drop 1 (map f (drop n xs))
map_next f n xs = sym (drop-map f 1 (drop n xs) ∙ ap (map f) (drop-drop 1 n xs))

pub map_drop_remove : {X Y : Type 0} (f : X → Y) (n i : ℕ) (xs : List X)
    → map f (drop n (remove xs (n + i))) ≡ remove (map f (drop n xs)) i
map_drop_remove f n i xs = ap (map f) (drop_remove xs n i) ∙ map_remove f (drop n xs) i
