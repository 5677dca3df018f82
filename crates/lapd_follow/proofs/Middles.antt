-- The middle of some times lies where their classes say.
use Rattle.std.proofs.Common.{◌≡◌, ℕ, suc, ◌+◌, ◌*◌, ◌/◌, ◌^◌, ◌<◌, ◌≤◌, nat_le, nat_lt, cond, min, max, Bool, true, false, Some, List, [], ◌∷◌, length, get_or, take, refl, ap, arith}
use Rattle.std.specs.List.{All, count_by, sum}
use Rattle.std.proofs.lemmas.Bool.Decides.{leb_tells}
use Rattle.std.proofs.lemmas.List.Elements.{All-nil, All-cons, All-head, All-tail}
use Rattle.std.proofs.lemmas.List.Sums.{sum_by-cons, sum_by-take-le}
use Rattle.lapd_follow.specs.declared.tally.Times.{Times}
use Rattle.lapd_follow.specs.declared.classes.Middle.{Middle}
use Rattle.lapd_follow.specs.Classes.{Halve, IsNarrow, begin_of, class_of, class_of_nth, end_of, middle_class, middle_within}
use Rattle.lapd_follow.specs.Tallies.{greatest_with, least_with, middle_of, no_times, with_time, with_times}
use Rattle.lapd_follow.proofs.Bounds.{before_begin, narrow_class, not_above_end}
use Rattle.lapd_follow.proofs.Counted.{HasRoom, before_after, sum_after}
use Rattle.lapd_follow.proofs.NthTimes.{nth_before, nth_up_to}

-- ---- If one test passes whatever another passes, it passes as many.

count_one : (b c : Bool) → (b ≡ true → c ≡ true) → cond b 1 0 ≤ cond c 1 0
count_one true c h = rw (h refl) (omega arith)
count_one false c h = omega arith

more_pass : (p q : ℕ → Bool) (times : List ℕ) → All (λ n. p n ≡ true → q n ≡ true) times
    → count_by p times ≤ count_by q times
more_pass p q [] h = omega arith
more_pass p q (n ∷ times) h =
    let later = more_pass p q times (All-tail (λ n. p n ≡ true → q n ≡ true) n times h) in
    let one = count_one (p n) (q n) (All-head (λ n. p n ≡ true → q n ≡ true) n times h) in
    omega (
      arith,
      later,
      one,
      sum_by-cons (λ x. cond (p x) 1 0) n times,
      sum_by-cons (λ x. cond (q x) 1 0) n times,
    )

-- ---- By classes.

-- the counts after some times
abbrev pub counts_of : List ℕ → List ℕ
counts_of times = (with_times times no_times).classes

none_at_first : (m : ℕ) → sum (take m no_times.classes) ≡ 0
none_at_first m = omega (arith, sum_by-take-le (λ (n : ℕ). n) no_times.classes m)

room_at_first : (times : List ℕ) → length times < 2 ^ 64 → HasRoom no_times.classes (length times)
room_at_first times h = record { classes = refl; room = omega (arith, h) }

class_passes : (c m : ℕ) → nat_lt c (suc m) ≡ true → nat_le c m ≡ true
class_passes c m h = grind (arith, leb_tells (suc c) (suc m), leb_tells c m, h)

up_to_class : (times : List ℕ) (m : ℕ)
    → count_by (λ n. nat_lt (class_of n) (suc m)) times
    ≤ count_by (λ n. nat_le (class_of n) m) times
up_to_class times m =
    more_pass (λ n. nat_lt (class_of n) (suc m)) (λ n. nat_le (class_of n) m) times
    (λ k d within. class_passes (class_of (get_or times k d)) m)

nth_halves : (times counts : List ℕ) (nth : ℕ) → sum counts ≡ length times
    → nth ≡ (length times + 1) / 2 → 0 < length times
    → ((m : ℕ) → sum (take m counts) ≡ count_by (λ n. nat_lt (class_of n) m) times)
    → Halve (λ n. nat_le (class_of n) (class_of_nth nth counts))
    (λ n. nat_lt (class_of n) (class_of_nth nth counts)) times
nth_halves times counts nth all half some before =
    let m = class_of_nth nth counts in
    let positive : 0 < nth = omega (arith, half, some) in
    let within : nth ≤ sum counts = omega (arith, half, some, all) in (
      omega (arith, nth_up_to counts nth within, before (suc m), up_to_class times m, half),
      omega (arith, nth_before counts nth positive, before m, half),
    )

pub class_halves : (times : List ℕ) → 0 < length times → length times < 2 ^ 64
    → Halve (λ n. nat_le (class_of n) (middle_class (counts_of times)))
    (λ n. nat_lt (class_of n) (middle_class (counts_of times))) times
unfolding middle_class
class_halves times some few =
    let room = room_at_first times few in
    let all : sum (counts_of times) ≡ length times = omega (arith, sum_after times no_times room) in
    nth_halves times (counts_of times) ((sum (counts_of times) + 1) / 2) all
    (ap (λ n. (n + 1) / 2) all) some
    (λ m. omega (arith, before_after times no_times m room, none_at_first m))

-- ---- By times.

-- the least and the greatest after some times
pub record Spans (times : List ℕ) (t : Times) (a b : ℕ) : Type 0 where
  pub low : ℕ
  pub high : ℕ
  pub least : t.least ≡ Some low
  pub greatest : t.greatest ≡ Some high
  pub not_above : low ≤ a
  pub not_below : b ≤ high
  pub all : All (λ n. (low ≤ n) × (n ≤ high)) times

spans : (times : List ℕ) (t : Times) (a b : ℕ) → t.least ≡ Some a → t.greatest ≡ Some b
    → Spans times (with_times times t) a b
spans [] t a b least greatest = record {
  low = a;
  high = b;
  least = least;
  greatest = greatest;
  not_above = omega arith;
  not_below = omega arith;
  all = All-nil (λ n. (a ≤ n) × (n ≤ b));
}
spans (n ∷ times) t a b least greatest =
    let s =
    spans times (with_time (Some n) t) (min a n) (max b n)
    (ap (λ x. Some (least_with n x)) least) (ap (λ x. Some (greatest_with n x)) greatest) in
    record {
      low = s.low;
      high = s.high;
      least = s.least;
      greatest = s.greatest;
      not_above = omega (arith, s.not_above);
      not_below = omega (arith, s.not_below);
      all =
          All-cons (λ x. (s.low ≤ x) × (x ≤ s.high)) n times
          (omega (arith, s.not_above), omega (arith, s.not_below)) s.all;
    }

spans_all : (n : ℕ) (times : List ℕ) → Spans (n ∷ times) (with_times (n ∷ times) no_times) n n
spans_all n times =
    let s = spans times (with_time (Some n) no_times) n n refl refl in
    record {
      low = s.low;
      high = s.high;
      least = s.least;
      greatest = s.greatest;
      not_above = s.not_above;
      not_below = s.not_below;
      all = All-cons (λ x. (s.low ≤ x) × (x ≤ s.high)) n times (s.not_above, s.not_below) s.all;
    }

to_passes : (n c low high : ℕ) → n < 2 ^ 64 → (low ≤ n) × (n ≤ high) → nat_le (class_of n) c ≡ true
    → nat_le n (min high (end_of c)) ≡ true
to_passes n c low high fits within h =
    let class : class_of n ≤ c = grind (arith, leb_tells (class_of n) c, h) in
    let up_to : n ≤ min high (end_of c) = omega (arith, not_above_end n c fits class, within.1) in
    grind (arith, leb_tells n (min high (end_of c)), up_to)

from_passes : (n c low high : ℕ) → (low ≤ n) × (n ≤ high) → nat_lt n (max low (begin_of c)) ≡ true
    → nat_lt (class_of n) c ≡ true
from_passes n c low high within h =
    let below : n < max low (begin_of c) =
    grind (arith, leb_tells (suc n) (max low (begin_of c)), h) in
    let first : n < begin_of c = omega (arith, below, within.0) in
    grind (arith, leb_tells (suc (class_of n)) c, before_begin n c first)

time_halves : (times : List ℕ) (c low high : ℕ) → All (λ n. n < 2 ^ 64) times
    → All (λ n. (low ≤ n) × (n ≤ high)) times
    → Halve (λ n. nat_le (class_of n) c) (λ n. nat_lt (class_of n) c) times
    → Halve (λ n. nat_le n (min high (end_of c))) (λ n. nat_lt n (max low (begin_of c))) times
time_halves times c low high fits within halves = (
  omega (
    arith,
    halves.0,
    more_pass (λ n. nat_le (class_of n) c) (λ n. nat_le n (min high (end_of c))) times
        (λ k d i. to_passes (get_or times k d) c low high (fits k d i) (within k d i)),
  ),
  omega (
    arith,
    halves.1,
    more_pass (λ n. nat_lt n (max low (begin_of c))) (λ n. nat_lt (class_of n) c) times
        (λ k d i. from_passes (get_or times k d) c low high (within k d i)),
  ),
)

narrow_middle : (c low high : ℕ) → 1000 < min high (end_of c) → max low (begin_of c) < 100000000
    → 2 * min high (end_of c) ≤ 5 * max low (begin_of c)
narrow_middle c low high late early =
    omega (arith, narrow_class c (omega (arith, late)) (omega (arith, early)))

pub middle_halves : (times : List ℕ) → 0 < length times → length times < 2 ^ 64
    → All (λ n. n < 2 ^ 64) times
    → (m : Middle) × (middle_of (with_times times no_times) ≡ Some m)
    × Halve (λ n. nat_le n m.to) (λ n. nat_lt n m.from) times × IsNarrow m
middle_halves [] some few fits = absurd (omega (arith, some))
middle_halves (n ∷ times) some few fits =
    let s = spans_all n times in
    let c = middle_class (counts_of (n ∷ times)) in
    let known : middle_of (with_times (n ∷ times) no_times) ≡ middle_within c (Some s.low)
    (Some s.high) =
    rw (s.least, s.greatest) refl in (
      record { from = max s.low (begin_of c); to = min s.high (end_of c) },
      known,
      time_halves (n ∷ times) c s.low s.high fits s.all (class_halves (n ∷ times) some few),
      narrow_middle c s.low s.high,
    )
