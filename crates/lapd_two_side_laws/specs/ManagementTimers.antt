-- The timer of TEI management runs exactly while its end waits for an answer. Without it a terminal
-- would stay without a TEI, or a check would never end.
use Rattle.std.specs.Prelude.{◌≡◌, ℕ, ◌&&◌, Bool, Option, Some, is_some}
use Rattle.lapd_timers.specs.declared.timer.Timer.{Timer}
use Rattle.lapd_timers.specs.declared.timer.Timer.TheVariants.{T201, T202}
use Rattle.lapd_timers.specs.Due.{Timers, deadline_of}
use Rattle.lapd_link_definition.specs.RunningTimers.{is_same_timer}
use Rattle.lapd_tei.specs.Terminal.{is_awaiting}
use Rattle.lapd_sides.specs.Network.{Network}
use Rattle.lapd_sides.specs.User.{User}
use Rattle.lapd_two_side_laws.specs.ExactTimers.{IsNoLaterThan}
use Rattle.lapd_side_events.specs.Interface.{Interface}

-- this timer has a deadline exactly if `runs` is true, and no other timer has one
abbrev pub RunsAlone : Timer → Bool → Timers → Type 0
RunsAlone its runs t = (timer : Timer) → is_some (deadline_of timer t)
    ≡ (is_same_timer its timer && runs)

-- T202 runs while the terminal awaits a TEI (Q.921 5.3.2, 5.9.7)
abbrev pub HasTimerOfTerminal : User → Type 0
HasTimerOfTerminal s = RunsAlone T202 (is_awaiting s.management.terminal) s.served.timers

-- T201 runs while a TEI check is in progress (Q.921 5.3.3, 5.9.6)
abbrev pub HasTimerOfAssigner : Network → Type 0
HasTimerOfAssigner s = RunsAlone T201 (is_some s.management.check) s.served.timers

-- on both sides
abbrev pub HaveTimersOfManagement : Interface → Type 0
HaveTimersOfManagement i = HasTimerOfTerminal i.user × HasTimerOfAssigner i.network

-- this timer of TEI management has a deadline, and its side's next deadline is no later
pub record IsAwaited (timer : Timer) (t : Timers) (next : Option ℕ) : Type 0 where
  pub deadline : ℕ
  pub its : deadline_of timer t ≡ Some deadline
  pub in_time : IsNoLaterThan deadline next
