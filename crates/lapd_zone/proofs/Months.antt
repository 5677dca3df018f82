-- The month and the day of a date, by its day number.
use Rattle.std.proofs.Common.{◌≡◌, ℕ, zero, suc, ◌+◌, ◌-◌, ◌*◌, ◌/◌, ◌%◌, ◌<◌, ◌≤◌, ℤ, pos, ◌+ℤ◌, ◌-ℤ◌, ◌<ℤ◌, ◌≤ℤ◌, unsigned_abs, true, int_le, refl, sym, ap, ◌∙◌, inl, inr, arith}
use Rattle.std.proofs.lemmas.Bool.Decides.{leb_tells}
use Rattle.jiff_core.specs.Calendar.{days_from_civil}
use Rattle.jiff_core.specs.Date.{epoch_day}
use Rattle.jiff_core.specs.declared.civil.date.Date.{Date as CivilDate}
use Rattle.jiff_core.proofs.CalendarLemmas.{day_count-lt_month, days_from_civil-day_count}
use Rattle.jiff_core.proofs.DateLemmas.{civil, days_from_civil-day}
use Rattle.jiff_core.proofs.SignedLemmas.{signed_arith}
use Rattle.jiff_tz.proofs.TzifLemmas.{le_no, le_yes}
use Rattle.jiff_tz.proofs.YearLemmas.{year_of_day-date}
use Rattle.lapd_zone.specs.declared.calendar.Date.{Date}
use Rattle.lapd_zone.specs.Calendar.{date_after, date_of, last_month}

-- a month begins on or before each of its days, and a later one after it
month_begun : (d : CivilDate) → days_from_civil d.year d.month 1 ≤ℤ epoch_day d
month_begun d =
    let day = days_from_civil-day d.year d.month d.day 1 d.day_in.0 (omega arith) in
    let some = d.day_in.0 in
    omega (arith, signed_arith)

later_month : (d : CivilDate) (m : ℕ) → d.month < m → epoch_day d <ℤ days_from_civil d.year m 1
later_month d m later =
    let counts = day_count-lt_month d.year d.month d.day m 1 (civil d) (omega arith) later in
    omega (arith, signed_arith, days_from_civil-day_count, counts)

month_found : (d : CivilDate) (n : ℕ) → d.month ≤ n → last_month n d.year (epoch_day d) ≡ d.month
month_found d zero within = let some = d.month_in.0 in absurd (omega arith)
month_found d (suc n) within = elim (leb_tells d.month n) [
  | inl before ↦
      let later = le_no (days_from_civil d.year (suc n) 1) (epoch_day d)
      (later_month d (suc n) (omega arith)) in
      rw later (month_found d n before.1)
  | inr last ↦
      let same : suc n ≡ d.month = omega arith in
      let begun : int_le (days_from_civil d.year (suc n) 1) (epoch_day d) ≡ true =
      rw same (le_yes _ _ (month_begun d)) in
      rw begun same
]

distance : (a b : ℤ) (k : ℕ) → a ≡ b +ℤ pos k → unsigned_abs (a -ℤ b) ≡ k
distance a b k e = let same : (a -ℤ b) ≡ pos k = omega (arith, signed_arith) in ap unsigned_abs same

day_found : (d : CivilDate) → unsigned_abs (epoch_day d -ℤ days_from_civil d.year d.month 1) + 1
    ≡ d.day
day_found d =
    let day = days_from_civil-day d.year d.month d.day 1 d.day_in.0 (omega arith) in
    let some = d.day_in.0 in
    let far = distance (epoch_day d) (days_from_civil d.year d.month 1) (d.day - 1)
    (omega (arith, signed_arith)) in
    omega (arith, far, some)

abbrev shown : ℕ → ℕ → ℕ → ℕ → Date
shown years year month day = record { year = years + year; month = month; day = day }

found : (d : CivilDate) (years : ℕ) → date_after years (epoch_day d)
    ≡ shown years (unsigned_abs d.year) d.month d.day
found d years = rw (year_of_day-date d, month_found d 12 d.month_in.1, day_found d) refl

-- the date of a day is that of its day number
pub date_found : (d : CivilDate) (days year month day : ℕ) → epoch_day d ≡ pos (days % 146097)
    → year ≡ unsigned_abs d.year → month ≡ d.month → day ≡ d.day
    → shown (days / 146097 * 400) year month day ≡ date_of days
date_found d days year month day is_day is_year is_month is =
    rw (is_year, is_month, is) (sym (found d (days / 146097 * 400)) ∙ rw is_day refl)
