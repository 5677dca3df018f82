-- A list without elements in a row is a part of it, and a part of a part is a part.
use Rattle.std.proofs.Common.{◌≡◌, ℕ, zero, suc, ◌+◌, List, [], ◌∷◌, ◌++◌, take, drop, sym, subst, arith}
use Rattle.lapd_conform_draw.specs.Parts.{Part, ended, taken, lost}

pub whole : {A : Type 0} (xs : List A) → Part xs xs
whole [] = ended
whole (x ∷ xs) = taken (whole xs)

dropped : {A : Type 0} (count : ℕ) (xs : List A) → Part (drop count xs) xs
dropped zero xs = whole xs
dropped (suc count) [] = ended
dropped (suc count) (x ∷ xs) = lost (dropped count xs)

zero_more : (count : ℕ) → 0 + count ≡ count
zero_more count = omega arith

suc_more : (place count : ℕ) → suc place + count ≡ suc (place + count)
suc_more place count = omega arith

pub cut : {A : Type 0} (place count : ℕ) (xs : List A)
    → Part (take place xs ++ drop (place + count) xs) xs
cut zero count xs = subst (λ n. Part (drop n xs) xs) (sym (zero_more count)) (dropped count xs)
cut {A = A} (suc place) count [] = dropped {A = A} (suc place + count) []
cut (suc place) count (x ∷ xs) =
    subst (λ n. Part (x ∷ take place xs ++ drop n (x ∷ xs)) (x ∷ xs)) (sym (suc_more place count))
    (taken (cut place count xs))

pub part_of_part : {A : Type 0} {xs ys zs : List A} → Part xs ys → Part ys zs → Part xs zs
part_of_part p ended = p
part_of_part (taken p) (taken q) = taken (part_of_part p q)
part_of_part (lost p) (taken q) = lost (part_of_part p q)
part_of_part p (lost q) = lost (part_of_part p q)

-- what is equal to a cut of a list is a part of that list
pub cut_is_part : {A : Type 0} (place count : ℕ) {xs ys zs : List A} → ys ≡ zs
    → xs ≡ take place ys ++ drop (place + count) ys → Part xs zs
cut_is_part place count {xs = xs} {ys = ys} same_list same_cut =
    subst (λ list. Part xs list) same_list (subst (λ list. Part list ys) (sym same_cut) (cut place count ys))
