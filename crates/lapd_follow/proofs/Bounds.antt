-- The class of a time, against where the classes begin and end.
use Rattle.std.proofs.Common.{◌≡◌, ◌⊎◌, inl, inr, ℕ, zero, suc, ◌+◌, ◌-◌, ◌*◌, ◌^◌, ◌<◌, ◌≤◌, nat_le, cond, true, false, List, [], ◌∷◌, length, get_or, refl, ap, arith}
use Rattle.std.specs.List.{count_by}
use Rattle.std.proofs.lemmas.Bool.Decides.{leb_tells, eqb_tells}
use Rattle.std.proofs.lemmas.List.{get_or_past}
use Rattle.std.proofs.lemmas.List.Sums.{sum_by-cons, count_by-le-length}
use Rattle.std.proofs.lemmas.Option.{unwrap_or-slice_get}
use Rattle.lapd_follow.specs.Classes.{bounds, class_of, begin_of, end_of}

-- ---- How many bounds of a list that rises a number has reached.

-- no bound is below the one before
abbrev pub Rises : ℕ → List ℕ → Type 0
Rises a [] = a ≤ a
Rises a (b ∷ bs) = (a ≤ b) × Rises b bs

abbrev reached : ℕ → List ℕ → ℕ
reached n bs = count_by (λ b. nat_le b n) bs

reached_cons : (n b : ℕ) (bs : List ℕ) → reached n (b ∷ bs) ≡ cond (nat_le b n) 1 0 + reached n bs
reached_cons n b bs = sum_by-cons (λ x. cond (nat_le x n) 1 0) b bs

none_reached : (n a : ℕ) (bs : List ℕ) → Rises a bs → n < a → reached n bs ≡ 0
none_reached n a [] rises h = refl
none_reached n a (b ∷ bs) rises h =
    let below : n < b = omega (arith, rises.0, h) in
    let later = none_reached n b bs rises.1 below in
    grind (arith, reached_cons n b bs, leb_tells b n, later, below)

is_reached_at : (n b m : ℕ) (bs : List ℕ)
    → ((nat_le b n ≡ true) × (b ≤ n)) ⊎ ((nat_le b n ≡ false) × (n < b))
    → Rises b bs → m < reached n bs → suc m < reached n (b ∷ bs)
is_reached_at n b m bs (inl holds) rises later = grind (arith, reached_cons n b bs, holds.0, later)
is_reached_at n b m bs (inr fails) rises later =
    omega (arith, none_reached n b bs rises fails.1, later)

-- a bound that is not above n
is_reached : (n a : ℕ) (bs : List ℕ) (m d : ℕ) → Rises a bs → m < length bs → get_or bs m d ≤ n
    → m < reached n bs
is_reached n a [] m d rises within h = omega (arith, within)
is_reached n a (b ∷ bs) zero d rises within h = grind (arith, reached_cons n b bs, leb_tells b n, h)
is_reached n a (b ∷ bs) (suc m) d rises within h =
    let shorter : m < length bs = omega (arith, within) in
    is_reached_at n b m bs (leb_tells b n) rises.1 (is_reached n b bs m d rises.1 shorter h)

-- a bound above n
not_reached : (n a : ℕ) (bs : List ℕ) (m d : ℕ) → Rises a bs → m < length bs → n < get_or bs m d
    → reached n bs ≤ m
not_reached n a [] m d rises within h = omega (arith, within)
not_reached n a (b ∷ bs) zero d rises within h =
    grind (arith, reached_cons n b bs, leb_tells b n, none_reached n b bs rises.1 h)
not_reached n a (b ∷ bs) (suc m) d rises within h =
    let shorter : m < length bs = omega (arith, within) in
    let later = not_reached n b bs m d rises.1 shorter h in
    grind (arith, reached_cons n b bs, leb_tells b n, later)

-- ---- The bounds of the classes.

bounds_rise : Rises 0 bounds
unfolding bounds
bounds_rise = grind arith

pub class_bound : (n : ℕ) → class_of n < 17
unfolding class_of bounds
class_bound n = omega (arith, count_by-le-length (λ b. nat_le b n) bounds)

end_is : (m : ℕ) → end_of m ≡ get_or bounds m (2 ^ 64 - 1)
unfolding end_of
end_is m = unwrap_or-slice_get bounds m (2 ^ 64 - 1)

begin_is : (m : ℕ) → begin_of (suc m) ≡ end_of m
unfolding begin_of
begin_is m =
    let before : suc m - 1 ≡ m = omega arith in
    grind (arith, eqb_tells (suc m) 0, ap end_of before)

up_to_end : (n m : ℕ) → n < 2 ^ 64 → class_of n ≤ m
    → ((nat_le (get_or bounds m (2 ^ 64 - 1)) n ≡ true) × (get_or bounds m (2 ^ 64 - 1) ≤ n))
    ⊎ ((nat_le (get_or bounds m (2 ^ 64 - 1)) n ≡ false) × (n < get_or bounds m (2 ^ 64 - 1)))
    → ((nat_le (suc m) (length bounds) ≡ true) × (suc m ≤ length bounds))
    ⊎ ((nat_le (suc m) (length bounds) ≡ false) × (length bounds < suc m))
    → n ≤ get_or bounds m (2 ^ 64 - 1)
unfolding class_of
up_to_end n m fits h (inr above) within = omega (arith, above.1)
up_to_end n m fits h (inl below) (inl within) =
    omega (arith, is_reached n 0 bounds m (2 ^ 64 - 1) bounds_rise within.1 below.1, h)
up_to_end n m fits h (inl below) (inr past) =
    let far : length bounds ≤ m = omega (arith, past.1) in
    omega (arith, get_or_past bounds m (2 ^ 64 - 1) far, fits)

-- a time of a class up to m is not above the end of m
pub not_above_end : (n m : ℕ) → n < 2 ^ 64 → class_of n ≤ m → n ≤ end_of m
not_above_end n m fits h =
    rw (end_is m) (up_to_end n
    m fits h (leb_tells (get_or bounds m (2 ^ 64 - 1)) n) (leb_tells (suc m) (length bounds)))

below_end : (n m : ℕ) → n < get_or bounds m (2 ^ 64 - 1)
    → ((nat_le (suc m) (length bounds) ≡ true) × (suc m ≤ length bounds))
    ⊎ ((nat_le (suc m) (length bounds) ≡ false) × (length bounds < suc m))
    → class_of n ≤ m
unfolding class_of
below_end n m h (inl within) = not_reached n 0 bounds m (2 ^ 64 - 1) bounds_rise within.1 h
below_end n m h (inr past) = omega (arith, count_by-le-length (λ b. nat_le b n) bounds, past.1)

none_before : (n : ℕ) → n < begin_of 0 → class_of n < 0
unfolding begin_of
none_before n h = omega (arith, h)

-- a time below the beginning of m is of a class before m
pub before_begin : (n m : ℕ) → n < begin_of m → class_of n < m
before_begin n zero h = none_before n h
before_begin n (suc m) h =
    let below : n < get_or bounds m (2 ^ 64 - 1) = omega (arith, begin_is m, end_is m, h) in
    omega (arith, below_end n m below (leb_tells (suc m) (length bounds)))

-- ---- How far the bounds are apart.

-- no bound is more than 2.5 times the one before, and the last one is at 100 s
abbrev pub IsDense : ℕ → List ℕ → Type 0
IsDense a [] = 100000000 ≤ a
IsDense a (b ∷ bs) = (2 * b ≤ 5 * a) × IsDense b bs

dense_at : (a : ℕ) (bs : List ℕ) (m : ℕ) → IsDense a bs → get_or (a ∷ bs) m (2 ^ 64 - 1) < 100000000
    → 2 * get_or bs m (2 ^ 64 - 1) ≤ 5 * get_or (a ∷ bs) m (2 ^ 64 - 1)
dense_at a [] zero dense h = absurd (omega (arith, dense, h))
dense_at a [] (suc m) dense h = absurd (omega (arith, h))
dense_at a (b ∷ bs) zero dense h = dense.0
dense_at a (b ∷ bs) (suc m) dense h = dense_at b bs m dense.1 h

bounds_dense : (m : ℕ) → get_or bounds m (2 ^ 64 - 1) < 100000000
    → 2 * get_or bounds (suc m) (2 ^ 64 - 1) ≤ 5 * get_or bounds m (2 ^ 64 - 1)
unfolding bounds
bounds_dense m h =
    dense_at 1000 (2000 ∷ 5000 ∷ 10000 ∷ 20000 ∷ 50000 ∷ 100000 ∷ 200000 ∷ 500000 ∷ 1000000
    ∷ 2000000 ∷ 5000000 ∷ 10000000 ∷ 20000000 ∷ 50000000 ∷ 100000000 ∷ []) m (grind arith) h

first_end : end_of 0 ≡ 1000
unfolding end_of bounds
first_end = refl

pub narrow_class : (c : ℕ) → 1000 < end_of c → begin_of c < 100000000
    → 2 * end_of c ≤ 5 * begin_of c
narrow_class zero late early = absurd (omega (arith, first_end, late))
narrow_class (suc m) late early =
    let near : get_or bounds m (2 ^ 64 - 1) < 100000000 =
    omega (arith, begin_is m, end_is m, early) in
    omega (arith, begin_is m, end_is m, end_is (suc m), bounds_dense m near)
