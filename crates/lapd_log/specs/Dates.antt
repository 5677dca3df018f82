-- Days of the Gregorian calendar, by the day numbers of jiff_core.
use Rattle.std.specs.Prelude.{ℕ, ◌+◌, ◌-◌, ◌&&◌, nat_le, if◌then◌else◌, Bool, Option, None, Some, pos, unsigned_abs}
use Rattle.jiff_core.specs.Calendar.{days_from_civil}

abbrev pub is_dated : ℕ → ℕ → ℕ → Bool
is_dated year month day = (nat_le 1970 year && nat_le year 9999)
    && ((nat_le 1 month && nat_le month 12) && (nat_le 1 day && nat_le day 31))

-- the days from 1 January 1970 to this day: day 31 of a month with 30 is the first of the next one
abbrev pub day_number : ℕ → ℕ → ℕ → Option ℕ
day_number year month day = if is_dated year month day
    then Some (unsigned_abs (days_from_civil (pos year) month 1) + day - 1) else None
