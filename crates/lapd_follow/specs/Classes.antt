-- Classes of times. A count of each class shows where the middle of the times lies, however many
-- times there are.
use Rattle.std.specs.Prelude.{ℕ, suc, ◌==◌, ◌+◌, ◌-◌, ◌*◌, ◌/◌, ◌^◌, ◌<◌, ◌≤◌, min, max, nat_le, if◌then◌else◌, Bool, List, length, [], ◌∷◌, slice_get, slice_index, slice_set, sum, Option, Some, None, unwrap_or}
use Rattle.std.specs.List.{count_by}
use Rattle.lapd_follow.specs.declared.classes.Middle.{Middle}
use Rattle.lapd_follow.specs.Ends.{one_more}

-- where each class but the first begins, in microseconds: at 1, 2 and 5 ms, at 10, 20 and 50 ms,
-- and so on up to 100 s
unfoldable pub bounds : List ℕ
bounds = 1000 ∷ 2000 ∷ 5000 ∷ 10000 ∷ 20000 ∷ 50000 ∷ 100000 ∷ 200000 ∷ 500000 ∷ 1000000
    ∷ 2000000 ∷ 5000000 ∷ 10000000 ∷ 20000000 ∷ 50000000 ∷ 100000000 ∷ []

-- the class of a time, from 0: how many bounds are not above it
unfoldable pub class_of : ℕ → ℕ
class_of n = count_by (λ bound. nat_le bound n) bounds

-- the end of a class; that of the last one is the greatest number of 64 bits
unfoldable pub end_of : ℕ → ℕ
end_of class = unwrap_or (slice_get bounds class) (2 ^ 64 - 1)

-- the beginning of a class
unfoldable pub begin_of : ℕ → ℕ
begin_of class = if class == 0 then 0 else end_of (class - 1)

-- the counts of the classes, with one more time of this class
abbrev pub counted_in : ℕ → List ℕ → List ℕ
counted_in class counts = slice_set counts class (one_more (slice_index counts class))

-- the class of the n-th of the times, counted from 1 and from the least
abbrev pub class_of_nth : ℕ → List ℕ → ℕ
class_of_nth n [] = 0
class_of_nth n (count ∷ rest) = if nat_le n count then 0 else suc (class_of_nth (n - count) rest)

-- the class of the middle one; of two in the middle, that of the lesser
unfoldable pub middle_class : List ℕ → ℕ
middle_class counts = class_of_nth ((sum counts + 1) / 2) counts

-- between which times the middle one lies: the bounds of its class, but no further than the least
-- and the greatest of all times
abbrev pub middle_within : ℕ → Option ℕ → Option ℕ → Option Middle
middle_within class None greatest = None
middle_within class (Some least) None = None
middle_within class (Some least) (Some greatest) = Some (record {
  from = max least (begin_of class);
  to = min greatest (end_of class);
})

-- at least half of the times pass the first test, and fewer than half pass the second
abbrev pub Halve : (ℕ → Bool) → (ℕ → Bool) → List ℕ → Type 0
Halve up_to before times = (length times ≤ 2 * count_by up_to times)
    × (2 * count_by before times < length times)

-- between 1 ms and 100 s the greater bound is at most 2.5 times the lesser
abbrev pub IsNarrow : Middle → Type 0
IsNarrow m = 1000 < m.to → m.from < 100000000 → 2 * m.to ≤ 5 * m.from
