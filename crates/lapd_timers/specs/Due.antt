-- The timers of a side, and which of them is due: among the timers that run with a deadline at most
-- now, the timer with the least pair (deadline, timer).
use Rattle.std.specs.Prelude.{◌≡◌, ℕ, ◌+◌, ◌<◌, ◌≤◌, min, nat_le, if◌then◌else◌, Option, Some, None, ◌⊎◌}
use Rattle.lapd_timers.specs.declared.timer.Timer.{Timer}
use Rattle.lapd_timers.specs.declared.timer.Timer.TheVariants.{T200, T201, T202, T203}
use Rattle.lapd_timers.specs.declared.timer_set.TimerDeadline.{TimerDeadline}
use Rattle.lapd_timers.specs.Durations.{Lengths}

-- how long each timer runs, and the deadline of each running timer, in milliseconds
pub record Timers : Type 0 where
  pub durations : Lengths
  pub t200 : Option ℕ
  pub t201 : Option ℕ
  pub t202 : Option ℕ
  pub t203 : Option ℕ

-- new timers: none runs
abbrev pub all_stopped : Lengths → Timers
all_stopped durations = record {
  durations = durations;
  t200 = None;
  t201 = None;
  t202 = None;
  t203 = None;
}

abbrev pub deadline_of : Timer → Timers → Option ℕ
deadline_of T200 s = s.t200
deadline_of T201 s = s.t201
deadline_of T202 s = s.t202
deadline_of T203 s = s.t203

-- the same timers, with another deadline of one timer
abbrev pub with_deadline : Timer → Option ℕ → Timers → Timers
with_deadline T200 deadline s = record s { t200 = deadline }
with_deadline T201 deadline s = record s { t201 = deadline }
with_deadline T202 deadline s = record s { t202 = deadline }
with_deadline T203 deadline s = record s { t203 = deadline }

-- the same timers, with other durations of those that are started from then on
abbrev pub with_durations : Lengths → Timers → Timers
with_durations durations s = record s { durations = durations }

-- the greatest moment, and the deadline of a timer that is started now
abbrev pub last_moment : ℕ
last_moment = 18446744073709551615

abbrev pub deadline_from : ℕ → ℕ → ℕ
deadline_from now duration = min (now + duration) last_moment

-- the order of the timers
abbrev pub place : Timer → ℕ
place T200 = 0
place T201 = 1
place T202 = 2
place T203 = 3

-- the pairs (deadline, timer) of the timers that run with a deadline at most now
pub record HasExpired (now : ℕ) (s : Timers) (e : TimerDeadline) : Type 0 where
  pub runs : deadline_of e.timer s ≡ Some e.deadline
  pub is_past : e.deadline ≤ now

-- One pair is no greater than another: its deadline is less, or its deadline is the same and its
-- timer is not later in the order.
abbrev pub IsNoGreater : TimerDeadline → TimerDeadline → Type 0
IsNoGreater e f = (e.deadline < f.deadline) ⊎ ((e.deadline ≡ f.deadline)
    × (place e.timer ≤ place f.timer))

-- the least of some pairs, if there are any
abbrev pub IsLeast : (TimerDeadline → Type 0) → Option TimerDeadline → Type 0
IsLeast Among None = (f : TimerDeadline) → Among f → ⊥
IsLeast Among (Some e) = Among e × ((f : TimerDeadline) → Among f → IsNoGreater e f)

abbrev pub timer_of : Option TimerDeadline → Option Timer
timer_of None = None
timer_of (Some e) = Some e.timer

-- the timer that is due now, if there is one
pub record IsDue (now : ℕ) (s : Timers) (timer : Option Timer) : Type 0 where
  pub least : Option TimerDeadline
  pub is_least : IsLeast (HasExpired now s) least
  pub is_its : timer ≡ timer_of least

-- the lesser of the least pair so far and the pair of one more timer, if that timer runs and has
-- expired
abbrev pub sooner_of : Option TimerDeadline → TimerDeadline → Option TimerDeadline
sooner_of None e = Some e
sooner_of (Some least) e = if nat_le least.deadline e.deadline then Some least else Some e

abbrev pub sooner : ℕ → Timer → Option ℕ → Option TimerDeadline → Option TimerDeadline
sooner now timer None least = least
sooner now timer (Some deadline) least = if nat_le deadline now
    then sooner_of least (record { deadline = deadline; timer = timer }) else least
