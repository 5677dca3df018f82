-- How long the timers of a side run (Q.921 5.9).
use Rattle.std.specs.Prelude.{ℕ, ◌≤◌, ◌&&◌, nat_le, if◌then◌else◌, Bool, Option, Some, None}
use Rattle.lapd_timers.specs.declared.timer.Timer.{Timer}
use Rattle.lapd_timers.specs.declared.timer.Timer.TheVariants.{T200, T201, T202, T203}

-- all in milliseconds
pub record Lengths : Type 0 where
  pub t200 : ℕ
  pub t201 : ℕ
  pub t202 : ℕ
  pub t203 : ℕ

-- from a millisecond to an hour
abbrev pub is_length : ℕ → Bool
is_length n = nat_le 1 n && nat_le n 3600000

pub record AreInRange (l : Lengths) : Type 0 where
  pub t200_low : 1 ≤ l.t200
  pub t200_high : l.t200 ≤ 3600000
  pub t201_low : 1 ≤ l.t201
  pub t201_high : l.t201 ≤ 3600000
  pub t202_low : 1 ≤ l.t202
  pub t202_high : l.t202 ≤ 3600000
  pub t203_low : 1 ≤ l.t203
  pub t203_high : l.t203 ≤ 3600000

-- these four durations, if each is in its range
abbrev pub lengths_of : ℕ → ℕ → ℕ → ℕ → Option Lengths
lengths_of t200 t201 t202 t203 =
    if is_length t200 && (is_length t201 && (is_length t202 && is_length t203))
    then Some (record { t200 = t200; t201 = t201; t202 = t202; t203 = t203 }) else None

-- one second for T200 (5.9.1) and T201 (5.9.6), two for T202 (5.9.7), ten for T203 (5.9.8)
abbrev pub standard_lengths : Lengths
standard_lengths = record { t200 = 1000; t201 = 1000; t202 = 2000; t203 = 10000 }

abbrev pub length_of : Timer → Lengths → ℕ
length_of T200 l = l.t200
length_of T201 l = l.t201
length_of T202 l = l.t202
length_of T203 l = l.t203
