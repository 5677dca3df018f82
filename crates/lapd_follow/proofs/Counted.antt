-- The counts of the classes after some times.
use Rattle.std.proofs.Common.{◌≡◌, ℕ, ◌+◌, ◌^◌, ◌<◌, nat_lt, cond, Some, List, [], ◌∷◌, length, get_or, take, ◌∙◌, arith}
use Rattle.std.specs.List.{count_by, sum}
use Rattle.std.proofs.Math.ListN.{length-set}
use Rattle.std.proofs.lemmas.List.Sums.{sum_by-cons, sum_by-set, get_or-le-sum_by}
use Rattle.lapd_follow.specs.declared.tally.Times.{Times}
use Rattle.lapd_follow.specs.Ends.{one_more}
use Rattle.lapd_follow.specs.Classes.{class_of, counted_in}
use Rattle.lapd_follow.specs.Tallies.{with_time, with_times}
use Rattle.lapd_follow.proofs.Bounds.{class_bound}
use Rattle.lapd_follow.proofs.NthTimes.{sum_take-set}

-- as many counts as classes, with room for so many more times
pub record HasRoom (counts : List ℕ) (more : ℕ) : Type 0 where
  pub classes : length counts ≡ 17
  pub room : sum counts + more < 2 ^ 64

place_within : (n : ℕ) (counts : List ℕ) (more : ℕ) → HasRoom counts more
    → class_of n < length counts
place_within n counts more h = omega (arith, class_bound n, h.classes)

grows : (n : ℕ) (counts : List ℕ) (more : ℕ) → HasRoom counts (more + 1)
    → one_more (get_or counts (class_of n) 0) ≡ get_or counts (class_of n) 0 + 1
grows n counts more h =
    omega (
      arith,
      get_or-le-sum_by (λ (x : ℕ). x) counts (class_of n) 0 (place_within n counts (more + 1) h),
      h.room,
    )

step_sum : (n : ℕ) (counts : List ℕ) (more : ℕ) → HasRoom counts (more + 1)
    → sum (counted_in (class_of n) counts) ≡ sum counts + 1
step_sum n counts more h =
    omega (
      arith,
      sum_by-set (λ (x : ℕ). x) counts (class_of n) (one_more (get_or counts (class_of n) 0)) 0
          (place_within n counts (more + 1) h),
      grows n counts more h,
    )

step_room : (n : ℕ) (counts : List ℕ) (more : ℕ) → HasRoom counts (more + 1)
    → HasRoom (counted_in (class_of n) counts) more
step_room n counts more h = record {
  classes = length-set counts (class_of n) (one_more (get_or counts (class_of n) 0)) ∙ h.classes;
  room = omega (arith, step_sum n counts more h, h.room);
}

step_take : (n m : ℕ) (counts : List ℕ) (more : ℕ) → HasRoom counts (more + 1)
    → sum (take m (counted_in (class_of n) counts)) ≡ sum (take m counts)
    + cond (nat_lt (class_of n) m) 1 0
step_take n m counts more h =
    rw (grows n counts more h)
    (sum_take-set counts m (class_of n) (place_within n counts (more + 1) h))

room_of : (n : ℕ) (times : List ℕ) (counts : List ℕ) → HasRoom counts (length (n ∷ times))
    → HasRoom counts (length times + 1)
room_of n times counts h = record { classes = h.classes; room = omega (arith, h.room) }

-- all counts together are as many as the times
pub sum_after : (times : List ℕ) (t : Times) → HasRoom t.classes (length times)
    → sum (with_times times t).classes ≡ sum t.classes + length times
sum_after [] t h = omega arith
sum_after (n ∷ times) t h =
    let room = room_of n times t.classes h in
    let later =
    sum_after times (with_time (Some n) t) (step_room n t.classes (length times) room) in
    omega (arith, later, step_sum n t.classes (length times) room)

-- the counts before a class are as many as the times of those classes
pub before_after : (times : List ℕ) (t : Times) (m : ℕ) → HasRoom t.classes (length times)
    → sum (take m (with_times times t).classes) ≡ sum (take m t.classes)
    + count_by (λ n. nat_lt (class_of n) m) times
before_after [] t m h = omega arith
before_after (n ∷ times) t m h =
    let room = room_of n times t.classes h in
    let later =
    before_after times (with_time (Some n) t) m
    (step_room n t.classes (length times) room) in
    omega (
      arith,
      later,
      step_take n m t.classes (length times) room,
      sum_by-cons (λ x. cond (nat_lt (class_of x) m) 1 0) n times,
    )
