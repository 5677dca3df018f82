-- Counting by steps of one, for the state variables V(S), V(A), V(R) and the sequence numbers N(S),
-- N(R) (Q.921 3.5.2). Each definition applies to two readings.
use Rattle.std.specs.Prelude.{◌≡◌, ◌≢◌, ℕ, zero, suc, ◌+◌, ◌-◌, ◌%◌, ◌<◌, ◌≤◌, Bool, true, ◌&&◌, nat_le}

-- whole numbers without a bound, or the tags 0 to 127 that frames carry (Q.921 3.5.2.1: the modulus
-- is 128)
pub data Reading : Type 0 where
  Whole : Reading
  Tagged : Reading

-- the tag of a whole number
unfoldable pub tag : ℕ → ℕ
tag n = n % 128

-- a number of a reading: any number, or a tag
abbrev pub IsNumber : Reading → ℕ → Type 0
IsNumber Whole n = Unit {0}
IsNumber Tagged n = n < 128

-- one step on: the tag after 127 is 0
unfoldable pub after : Reading → ℕ → ℕ
after Whole n = n + 1
after Tagged n = (n + 1) % 128

-- one step back: the tag before 0 is 127
unfoldable pub before : Reading → ℕ → ℕ
before Whole n = n - 1
before Tagged n = (n + 127) % 128

-- the number `n` steps after `a`
unfoldable pub number_after : Reading → ℕ → ℕ → ℕ
number_after r zero a = a
number_after r (suc n) a = after r (number_after r n a)

-- `n` steps lead from `a` to `b`, and no smaller number of steps does
pub record AreSteps (r : Reading) (n a b : ℕ) : Type 0 where
  pub lead : number_after r n a ≡ b
  pub fewest : (m : ℕ) → m < n → number_after r m a ≢ b

-- `x` is reached from `a` in no more steps than `b`, as a valid N(R) lies from V(A) to V(S) (Q.921
-- 3.5.2.3)
abbrev pub LiesFrom : Reading → ℕ → ℕ → ℕ → Type 0
LiesFrom r a x b = (n : ℕ) × (m : ℕ) × AreSteps r n a x × AreSteps r m a b × (n ≤ m)

-- fewer than `k` steps lead from `a` to `b`: fewer than k I frames are outstanding from V(A) to
-- V(S) (Q.921 5.9.5)
abbrev pub InFewerSteps : Reading → ℕ → ℕ → ℕ → Type 0
InFewerSteps r k a b = (n : ℕ) × (n < k) × (number_after r n a ≡ b)

-- some number of steps leads from `a` to `b`; among tags this is always true
unfoldable pub reaches : Reading → ℕ → ℕ → Bool
reaches Whole a b = nat_le a b
reaches Tagged a b = true

-- the number of steps from `a` to `b`, as a subtraction
unfoldable pub steps : Reading → ℕ → ℕ → ℕ
steps Whole a b = b - a
steps Tagged a b = (b % 128 + 128 - a % 128) % 128

-- whether `x` lies from `a` to `b`, by comparison
unfoldable pub lies_within : Reading → ℕ → ℕ → ℕ → Bool
lies_within Whole a x b = nat_le a x && nat_le x b
lies_within Tagged a x b = nat_le (steps Tagged a x) (steps Tagged a b)

-- two whole numbers lie within 127 of each other
pub record AreNear (x y : ℕ) : Type 0 where
  pub above : x ≤ y + 127
  pub below : y ≤ x + 127
