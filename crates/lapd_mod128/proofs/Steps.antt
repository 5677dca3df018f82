-- Laws of counting that hold in both readings.
use Rattle.std.proofs.Common.{◌≡◌, ℕ, zero, suc, ◌+◌, ◌-◌, ◌%◌, ◌<◌, ◌≤◌, ◌↔◌, true, refl, ◌∙◌, arith}
use Rattle.std.proofs.lemmas.Bool.Decides.{nat_tests}
use Rattle.lapd_mod128.specs.Counting.{Reading, Whole, Tagged, IsNumber, after, number_after, AreSteps, LiesFrom, InFewerSteps, reaches, steps, lies_within}

-- the tests of the two readings, as orders
pub reaches_implies : (a b : ℕ) → reaches Whole a b ≡ true → a ≤ b
unfolding reaches
reaches_implies a b h = grind (arith, nat_tests)

pub reaches_holds : (a b : ℕ) → a ≤ b → reaches Whole a b ≡ true
unfolding reaches
reaches_holds a b h = grind (arith, nat_tests)

pub tags_are_reached : (a b : ℕ) → reaches Tagged a b ≡ true
unfolding reaches
tags_are_reached a b = refl

pub whole_within_implies : (a x b : ℕ) → lies_within Whole a x b ≡ true → (a ≤ x) × (x ≤ b)
unfolding lies_within
whole_within_implies a x b h = grind (arith, nat_tests)

pub whole_within_holds : (a x b : ℕ) → a ≤ x → x ≤ b → lies_within Whole a x b ≡ true
unfolding lies_within
whole_within_holds a x b low high = grind (arith, nat_tests)

pub tagged_within_implies : (a x b : ℕ) → lies_within Tagged a x b ≡ true
    → steps Tagged a x ≤ steps Tagged a b
unfolding lies_within
tagged_within_implies a x b h = grind (arith, nat_tests)

pub tagged_within_holds : (a x b : ℕ) → steps Tagged a x ≤ steps Tagged a b
    → lies_within Tagged a x b ≡ true
unfolding lies_within
tagged_within_holds a x b h = grind (arith, nat_tests)

reaches_between_whole : (a x b : ℕ) → lies_within Whole a x b ≡ true
    → (reaches Whole a x ≡ true) × (reaches Whole x b ≡ true) × (reaches Whole a b ≡ true)
unfolding reaches
reaches_between_whole a x b h = let between = whole_within_implies a x b h in
    (grind (arith, nat_tests), grind (arith, nat_tests), grind (arith, nat_tests))

within_one_more_whole : (a x b : ℕ) → lies_within Whole a x b ≡ true
    → lies_within Whole a x (after Whole b) ≡ true
unfolding after
within_one_more_whole a x b h = let between = whole_within_implies a x b h in
    whole_within_holds a x (b + 1) between.0 (omega arith)

within_the_whole_whole : (a x y b : ℕ) → lies_within Whole a x b ≡ true
    → lies_within Whole x y b ≡ true → lies_within Whole a y b ≡ true
within_the_whole_whole a x y b hx hy =
    let one = whole_within_implies a x b hx in let two = whole_within_implies x y b hy in
    whole_within_holds a y b (omega arith) two.1

-- counting whole numbers is adding
pub number_after_whole : (n a : ℕ) → number_after Whole n a ≡ a + n
unfolding number_after after
number_after_whole zero a = omega arith
number_after_whole (suc n) a = omega (arith, number_after_whole n a)

-- counting tags is adding modulo 128
pub number_after_tagged : (n a : ℕ) → a < 128 → number_after Tagged n a ≡ (a + n) % 128
unfolding number_after after
number_after_tagged zero a h = omega arith
number_after_tagged (suc n) a h = omega (arith, number_after_tagged n a h)

-- one step on from a number is a number
pub after_is_number : (r : Reading) (n : ℕ) → IsNumber r n → IsNumber r (after r n)
unfolding after
after_is_number Whole n h = tt
after_is_number Tagged n h = omega arith

-- the subtraction is the number of steps
pub steps_are_counted : (r : Reading) (a b : ℕ) → IsNumber r a → IsNumber r b → reaches r a b ≡ true
    → AreSteps r (steps r a b) a b
unfolding steps
steps_are_counted Whole a b ha hb h = record {
  lead = number_after_whole (b - a) a ∙ omega (arith, reaches_implies a b h);
  fewest = λ m less same. omega (arith, number_after_whole m a, same, less);
}
steps_are_counted Tagged a b ha hb h = record {
  lead = number_after_tagged ((b % 128 + 128 - a % 128) % 128) a ha ∙ omega arith;
  fewest = λ m less same. omega (arith, number_after_tagged m a ha, same, less);
}

-- the number of steps is unique
pub steps_are_unique : (r : Reading) (n m a b : ℕ) → AreSteps r n a b → AreSteps r m a b → n ≡ m
steps_are_unique r n m a b hn hm = grind (arith, hn.fewest m, hm.fewest n, hn.lead, hm.lead)

-- no steps lead from a number to itself
pub no_steps : (r : Reading) (a : ℕ) → steps r a a ≡ 0
unfolding steps
no_steps Whole a = omega arith
no_steps Tagged a = omega arith

-- numbers with no steps between them are the same
pub no_steps_is_same : (r : Reading) (a b : ℕ) → IsNumber r a → IsNumber r b → reaches r a b ≡ true
    → steps r a b ≡ 0 → a ≡ b
unfolding steps
no_steps_is_same Whole a b ha hb h none = omega (arith, reaches_implies a b h)
no_steps_is_same Tagged a b ha hb h none = omega arith

-- the steps to a number between add up
pub steps_add_up : (r : Reading) (a x b : ℕ) → lies_within r a x b ≡ true
    → steps r a x + steps r x b ≡ steps r a b
unfolding steps
steps_add_up Whole a x b h = omega (arith, whole_within_implies a x b h)
steps_add_up Tagged a x b h = omega (arith, tagged_within_implies a x b h)

-- the steps to a number between two others are no more than the steps to the last
pub steps_to_between : (r : Reading) (a x b : ℕ) → lies_within r a x b ≡ true
    → steps r a x ≤ steps r a b
steps_to_between r a x b h = omega (arith, steps_add_up r a x b h)

-- a number that lies between two others is reached from the first, and reaches the second
pub reaches_between : (r : Reading) (a x b : ℕ) → lies_within r a x b ≡ true
    → (reaches r a x ≡ true) × (reaches r x b ≡ true) × (reaches r a b ≡ true)
unfolding reaches
reaches_between Whole a x b h = reaches_between_whole a x b h
reaches_between Tagged a x b h = (refl, refl, refl)

-- if the last number moves one step on, there is one step more
pub one_more_step : (r : Reading) (a b : ℕ) → reaches r a b ≡ true → steps r a b < 127
    → steps r a (after r b) ≡ steps r a b + 1
unfolding steps after
one_more_step Whole a b h room = omega (arith, reaches_implies a b h)
one_more_step Tagged a b h room = omega arith

-- the same for whole numbers, however far apart
pub one_more_whole_step : (a b : ℕ) → a ≤ b → steps Whole a (after Whole b) ≡ steps Whole a b + 1
unfolding steps after
one_more_whole_step a b h = omega arith

-- if the first number moves one step on, there is one step less
pub one_step_less : (r : Reading) (a b : ℕ) → 0 < steps r a b
    → steps r (after r a) b + 1 ≡ steps r a b
unfolding steps after
one_step_less Whole a b more = omega arith
one_step_less Tagged a b more = omega arith

-- two numbers that both go one step on stay as far apart
pub steps_stay : (r : Reading) (a b : ℕ) → steps r (after r a) (after r b) ≡ steps r a b
unfolding steps after
steps_stay Whole a b = omega arith
steps_stay Tagged a b = omega arith

-- the first of two numbers lies between them
pub first_lies_within : (r : Reading) (a b : ℕ) → reaches r a b ≡ true → lies_within r a a b ≡ true
first_lies_within Whole a b h = whole_within_holds a a b (omega arith) (reaches_implies a b h)
first_lies_within Tagged a b h = tagged_within_holds a a b (omega (arith, no_steps Tagged a))

-- and so does the last
pub last_lies_within : (r : Reading) (a b : ℕ) → reaches r a b ≡ true → lies_within r a b b ≡ true
last_lies_within Whole a b h = whole_within_holds a b b (reaches_implies a b h) (omega arith)
last_lies_within Tagged a b h = tagged_within_holds a b b (omega arith)

-- a number within two numbers is also within them if the last is one step further
pub within_one_more : (r : Reading) (a x b : ℕ) → lies_within r a x b ≡ true → steps r a b < 127
    → lies_within r a x (after r b) ≡ true
unfolding reaches
within_one_more Whole a x b h room = within_one_more_whole a x b h
within_one_more Tagged a x b h room = tagged_within_holds a x (after Tagged b)
    (omega (arith, tagged_within_implies a x b h, one_more_step Tagged a b refl room))

-- if two numbers lie within V(A) and V(S), the later lies within the earlier and V(S): V(A) never
-- moves past N(R)
pub within_the_rest : (r : Reading) (a x y b : ℕ) → lies_within r a y b ≡ true
    → lies_within r a x y ≡ true → lies_within r x y b ≡ true
unfolding steps
within_the_rest Whole a x y b hy hx =
    whole_within_holds x y b (whole_within_implies a x y hx).1 (whole_within_implies a y b hy).1
within_the_rest Tagged a x y b hy hx = tagged_within_holds x y b
    (omega (arith, tagged_within_implies a y b hy, tagged_within_implies a x y hx))

-- a number within a part lies within the whole
pub within_the_whole : (r : Reading) (a x y b : ℕ) → lies_within r a x b ≡ true
    → lies_within r x y b ≡ true → lies_within r a y b ≡ true
unfolding steps
within_the_whole Whole a x y b hx hy = within_the_whole_whole a x y b hx hy
within_the_whole Tagged a x y b hx hy = tagged_within_holds a y b
    (omega (arith, tagged_within_implies a x b hx, tagged_within_implies x y b hy))

-- between a number and itself lies only that number
pub only_itself_within : (r : Reading) (a x : ℕ) → IsNumber r a → IsNumber r x
    → lies_within r a x a ≡ true → a ≡ x
only_itself_within r a x ha hx h =
    no_steps_is_same r a x ha hx (reaches_between r a x a h).0
    (omega (arith, steps_add_up r a x a h, no_steps r a))

-- the comparison agrees with the order by counting
pub within_is_counted : (r : Reading) (a x b : ℕ) → IsNumber r a → IsNumber r x → IsNumber r b
    → lies_within r a x b ≡ true → LiesFrom r a x b
within_is_counted r a x b ha hx hb h = (
  steps r a x,
  steps r a b,
  steps_are_counted r a x ha hx (reaches_between r a x b h).0,
  steps_are_counted r a b ha hb (reaches_between r a x b h).2,
  steps_to_between r a x b h,
)

pub counted_is_within : (r : Reading) (a x b : ℕ) → IsNumber r a → IsNumber r x → IsNumber r b
    → LiesFrom r a x b → lies_within r a x b ≡ true
unfolding reaches
counted_is_within Whole a x b ha hx hb (n, m, to_x, to_b, order) = whole_within_holds a x b
    (omega (arith, number_after_whole n a, to_x.lead))
    (omega (arith, number_after_whole n a, number_after_whole m a, to_x.lead, to_b.lead, order))
counted_is_within Tagged a x b ha hx hb (n, m, to_x, to_b, order) = tagged_within_holds a x b
    (omega (
      arith,
      order,
      steps_are_unique Tagged n (steps Tagged a x) a x to_x
          (steps_are_counted Tagged a x ha hx refl),
      steps_are_unique Tagged m (steps Tagged a b) a b to_b
          (steps_are_counted Tagged a b ha hb refl),
    ))

-- the subtraction is below `k` exactly if fewer than `k` steps lead there
pub fewer_steps_are_counted : (r : Reading) (k a b : ℕ) → IsNumber r a → IsNumber r b
    → reaches r a b ≡ true → steps r a b < k → InFewerSteps r k a b
fewer_steps_are_counted r k a b ha hb h fewer =
    (steps r a b, fewer, (steps_are_counted r a b ha hb h).lead)

pub counted_are_fewer_steps : (r : Reading) (k a b : ℕ) → IsNumber r a → IsNumber r b
    → reaches r a b ≡ true → InFewerSteps r k a b → steps r a b < k
counted_are_fewer_steps r k a b ha hb h (n, fewer, lead) =
    grind (arith, fewer, lead, (steps_are_counted r a b ha hb h).fewest n)

-- both directions of the equivalence, as one law
pub lying_is_counting : (r : Reading) (a x b : ℕ) → IsNumber r a → IsNumber r x → IsNumber r b
    → (lies_within r a x b ≡ true) ↔ LiesFrom r a x b
lying_is_counting r a x b ha hx hb =
    (within_is_counted r a x b ha hx hb, counted_is_within r a x b ha hx hb)

pub fewer_is_counting : (r : Reading) (k a b : ℕ) → IsNumber r a → IsNumber r b
    → reaches r a b ≡ true → (steps r a b < k) ↔ InFewerSteps r k a b
fewer_is_counting r k a b ha hb h =
    (fewer_steps_are_counted r k a b ha hb h, counted_are_fewer_steps r k a b ha hb h)
