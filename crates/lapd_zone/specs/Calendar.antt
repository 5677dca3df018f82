-- Years, months and days of the Gregorian calendar, by the day numbers of jiff_core.
use Rattle.std.specs.Prelude.{ℕ, ◌+◌, ◌*◌, ◌/◌, ◌%◌, zero, suc, if◌then◌else◌, ℤ, pos, ◌-ℤ◌, int_le, unsigned_abs}
use Rattle.jiff_core.specs.Calendar.{days_from_civil}
use Rattle.jiff_tz.specs.Year.{year_of_day}
use Rattle.lapd_zone.specs.declared.calendar.Date.{Date}

-- the last of the first n months of a year that begins on or before this day
abbrev pub last_month : ℕ → ℤ → ℤ → ℕ
last_month zero year day = zero
last_month (suc n) year day =
    if int_le (days_from_civil year (suc n) 1) day then suc n else last_month n year day

abbrev pub month_of_day : ℤ → ℕ
month_of_day day = last_month 12 (year_of_day day) day

-- the day of the month, from 1 on
abbrev pub day_of_month : ℤ → ℕ
day_of_month day =
    unsigned_abs (day -ℤ days_from_civil (year_of_day day) (month_of_day day) 1) + 1

-- the date of a day of the first 400 years from 1970 on, as many years later
abbrev pub date_after : ℕ → ℤ → Date
date_after years day = record {
  year = years + unsigned_abs (year_of_day day);
  month = month_of_day day;
  day = day_of_month day;
}

-- the date of a day, counted from 1 January 1970. The calendar repeats after 400 years, which have
-- 146,097 days
abbrev pub date_of : ℕ → Date
date_of days = date_after (days / 146097 * 400) (pos (days % 146097))
