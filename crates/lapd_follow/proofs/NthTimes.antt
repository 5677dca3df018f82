-- The n-th of some times, by the counts of their classes.
use Rattle.std.proofs.Common.{◌≡◌, ◌⊎◌, inl, inr, ℕ, zero, suc, ◌+◌, ◌-◌, ◌<◌, ◌≤◌, nat_le, nat_lt, cond, true, false, List, [], ◌∷◌, length, get_or, take, set, arith}
use Rattle.std.specs.List.{sum}
use Rattle.std.proofs.lemmas.Bool.Decides.{leb_tells}
use Rattle.std.proofs.lemmas.List.Sums.{sum_by-cons}
use Rattle.lapd_follow.specs.Classes.{class_of_nth}

sum_cons : (x : ℕ) (xs : List ℕ) → sum (x ∷ xs) ≡ x + sum xs
sum_cons x xs = sum_by-cons (λ n. n) x xs

-- ---- Up to its class at least n times are counted, and before it fewer.

up_to_at : (n count : ℕ) (rest : List ℕ)
    → ((nat_le n count ≡ true) × (n ≤ count)) ⊎ ((nat_le n count ≡ false) × (count < n))
    → (n - count ≤ sum rest → n - count ≤ sum (take (suc (class_of_nth (n - count) rest)) rest))
    → n ≤ sum (count ∷ rest) → n ≤ sum (take (suc (class_of_nth n (count ∷ rest))) (count ∷ rest))
up_to_at n count rest (inl holds) later h =
    rw holds.0 (omega (arith, sum_cons count (take 0 rest), holds.1))
up_to_at n count rest (inr fails) later h =
    let within : n - count ≤ sum rest = omega (arith, sum_cons count rest, h) in
    rw fails.0 (omega (
      arith,
      sum_cons count (take (suc (class_of_nth (n - count) rest)) rest),
      later within,
      fails.1,
    ))

pub nth_up_to : (counts : List ℕ) (n : ℕ) → n ≤ sum counts
    → n ≤ sum (take (suc (class_of_nth n counts)) counts)
nth_up_to [] n h = h
nth_up_to (count ∷ rest) n h =
    up_to_at n count rest (leb_tells n count) (nth_up_to rest (n - count)) h

before_at : (n count : ℕ) (rest : List ℕ)
    → ((nat_le n count ≡ true) × (n ≤ count)) ⊎ ((nat_le n count ≡ false) × (count < n))
    → (0 < n - count → sum (take (class_of_nth (n - count) rest) rest) < n - count)
    → 0 < n → sum (take (class_of_nth n (count ∷ rest)) (count ∷ rest)) < n
before_at n count rest (inl holds) later h = rw holds.0 h
before_at n count rest (inr fails) later h =
    let more : 0 < n - count = omega (arith, fails.1) in
    rw fails.0 (omega (
      arith,
      sum_cons count (take (class_of_nth (n - count) rest) rest),
      later more,
      fails.1,
    ))

pub nth_before : (counts : List ℕ) (n : ℕ) → 0 < n → sum (take (class_of_nth n counts) counts) < n
nth_before [] n h = h
nth_before (count ∷ rest) n h =
    before_at n count rest (leb_tells n count) (nth_before rest (n - count)) h

-- ---- One more of a class.

pub sum_take-set : (counts : List ℕ) (m p : ℕ) → p < length counts
    → sum (take m (set counts p (get_or counts p 0 + 1))) ≡ sum (take m counts)
    + cond (nat_lt p m) 1 0
sum_take-set [] m p h = omega (arith, h)
sum_take-set (x ∷ xs) zero p h = grind (arith, leb_tells (suc p) 0)
sum_take-set (x ∷ xs) (suc m) zero h =
    grind (arith, leb_tells 1 (suc m), sum_cons x (take m xs), sum_cons (x + 1) (take m xs))
sum_take-set (x ∷ xs) (suc m) (suc p) h =
    let within : p < length xs = omega (arith, h) in
    let later = sum_take-set xs m p within in
    grind (
      arith,
      leb_tells (suc (suc p)) (suc m),
      leb_tells (suc p) m,
      sum_cons x (take m xs),
      sum_cons x (take m (set xs p (get_or xs p 0 + 1))),
      later,
    )
