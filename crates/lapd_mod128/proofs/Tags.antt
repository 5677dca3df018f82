-- How the two readings agree for whole numbers within 127 of each other.
use Rattle.std.proofs.Common.{◌≡◌, ◌<◌, ℕ, zero, suc, ◌+◌, ◌%◌, ◌≤◌, ◌==◌, nat_le, refl, arith}
use Rattle.std.proofs.lemmas.Bool.Decides.{nat_tests}
use Rattle.lapd_mod128.specs.Counting.{Whole, Tagged, tag, after, before, number_after, steps, lies_within, AreNear}
use Rattle.lapd_mod128.proofs.Steps.{number_after_tagged}

-- the tag is the remainder
pub tag_is_remainder : (n : ℕ) → tag n ≡ n % 128
unfolding tag
tag_is_remainder n = refl

-- the number n steps after the tag 0 is the tag of n
pub tag_is_counted : (n : ℕ) → number_after Tagged n 0 ≡ tag n
unfolding tag
tag_is_counted n = omega (arith, number_after_tagged n 0)

-- the tag of the next number is the next tag
pub tag_of_after : (n : ℕ) → tag (after Whole n) ≡ after Tagged (tag n)
unfolding tag after
tag_of_after n = omega arith

-- the tag of the previous number is the previous tag
pub tag_of_before : (n : ℕ) → 0 < n → tag (before Whole n) ≡ before Tagged (tag n)
unfolding tag before
tag_of_before n h = omega arith

-- taking steps and then the tag is taking the tag and then steps
pub tag_of_number_after : (n a : ℕ) → tag (number_after Whole n a) ≡ number_after Tagged n (tag a)
unfolding number_after
tag_of_number_after zero a = refl
tag_of_number_after (suc n) a = rw (tag_of_after (number_after Whole n a), tag_of_number_after n a)

-- a number at most one below another, and less than k above it, is near it
pub next_is_near : (x y k : ℕ) → k ≤ 127 → y ≤ x + 1 → x < y + k → AreNear x y
next_is_near x y k small below above =
    record { above = omega (arith, small, above); below = omega (arith, below) }

-- near numbers with the same tag are equal
pub near_tags_are_equal : (x y : ℕ) → AreNear x y → tag x ≡ tag y → x ≡ y
unfolding tag
near_tags_are_equal x y near same = omega (arith, near.above, near.below)

-- near numbers are equal exactly if their tags are equal
pub equality_on_tags : (x y : ℕ) → AreNear x y → (tag x == tag y) ≡ (x == y)
unfolding tag
equality_on_tags x y near = grind (arith, nat_tests, near.above, near.below)

-- the number of steps between two numbers is the number of steps between their tags
pub steps_on_tags : (a b : ℕ) → a ≤ b → b ≤ a + 127 → steps Tagged (tag a) (tag b) ≡ steps Whole a b
unfolding tag steps
steps_on_tags a b low high = omega arith

order_of_steps : (low x y : ℕ) → low ≤ x → low ≤ y
    → nat_le (steps Whole low x) (steps Whole low y) ≡ nat_le x y
unfolding steps
order_of_steps low x y x_low y_low = grind (arith, nat_tests)

-- the order of two numbers from `low` to `low + 127` is the order of the steps from its tag
pub order_on_tags : (low x y : ℕ) → low ≤ x → x ≤ low + 127 → low ≤ y → y ≤ low + 127
    → nat_le (steps Tagged (tag low) (tag x)) (steps Tagged (tag low) (tag y)) ≡ nat_le x y
order_on_tags low x y x_low x_high y_low y_high =
    rw (steps_on_tags low x x_low x_high, steps_on_tags low y y_low y_high)
    (order_of_steps low x y x_low y_low)

-- a number lies between two others exactly if its tag lies between theirs
pub lies_within_on_tags : (a x b : ℕ) → a ≤ b → AreNear a b → AreNear a x → AreNear x b
    → lies_within Tagged (tag a) (tag x) (tag b) ≡ lies_within Whole a x b
unfolding tag steps lies_within
lies_within_on_tags a x b order ab ax xb =
    grind (arith, nat_tests, ab.above, ab.below, ax.above, ax.below, xb.above, xb.below)
