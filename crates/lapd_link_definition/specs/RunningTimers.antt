-- The timers of an end: which run in each state, and how they agree with a timer outside that
-- follows the outputs Start and Stop of each step (Q.921 5.9.1, 5.9.8, 5.10.3).
use Rattle.std.specs.Prelude.{◌≡◌, not, if◌then◌else◌, Bool, true, false, List, [], ◌∷◌}
use Rattle.lapd_timers.specs.declared.timer.Timer.{Timer}
use Rattle.lapd_timers.specs.declared.timer.Timer.TheVariants.{T200, T201, T202, T203}
use Rattle.lapd_link_definition.specs.declared.state.State.{State}
use Rattle.lapd_link_definition.specs.declared.state.State.TheVariants.{TeiAssigned, AwaitingEstablishment, AwaitingRelease, MultipleFrameEstablished, TimerRecovery}
use Rattle.lapd_link_definition.specs.declared.out.Out.{Out}
use Rattle.lapd_link_definition.specs.declared.out.Out.TheVariants.{Start, Stop}
use Rattle.lapd_link_definition.specs.End.{End, StepState, runs}
use Rattle.lapd_link_definition.specs.Input.{Input, Expiry}

-- ---- The running timers.

-- No timer in state 4. T200 alone in states 5, 6 and 8, while a response is awaited (5.5.1.2,
-- 5.5.3.2, 5.6.7, 5.10.3.3). In state 7 exactly one: T203 if T200 does not run (5.10.3.1), and then
-- all sent frames are acknowledged (5.6.1).
abbrev pub AreTimersOf : State → Bool → Bool → Type 0 → Type 0
AreTimersOf TeiAssigned t200 t203 AllAcknowledged = (t200 ≡ false) × (t203 ≡ false)
AreTimersOf AwaitingEstablishment t200 t203 AllAcknowledged = (t200 ≡ true) × (t203 ≡ false)
AreTimersOf AwaitingRelease t200 t203 AllAcknowledged = (t200 ≡ true) × (t203 ≡ false)
AreTimersOf MultipleFrameEstablished t200 t203 AllAcknowledged = (t203 ≡ not t200)
    × (t200 ≡ false → AllAcknowledged)
AreTimersOf TimerRecovery t200 t203 AllAcknowledged = (t200 ≡ true) × (t203 ≡ false)

abbrev pub HasTimersOfState : End → Type 0
HasTimersOfState e = AreTimersOf e.state e.t200 e.t203 (e.window.vs ≡ e.window.va)

-- ---- The effect of outputs on a timer.

abbrev pub is_same_timer : Timer → Timer → Bool
is_same_timer T200 T200 = true
is_same_timer T201 T201 = true
is_same_timer T202 T202 = true
is_same_timer T203 T203 = true
is_same_timer timer other = false

-- It runs after Start, until Stop; any other output leaves it unchanged.
abbrev pub runs_after_out : Timer → Out → Bool → Bool
runs_after_out timer (Start started) running = if is_same_timer timer started then true else running
runs_after_out timer (Stop stopped) running = if is_same_timer timer stopped then false else running
runs_after_out timer out running = running

-- the effect of all outputs, in order
abbrev pub runs_after : Timer → List Out → Bool → Bool
runs_after timer [] running = running
runs_after timer (out ∷ outs) running = runs_after timer outs (runs_after_out timer out running)

-- At the start of a step the timer that expires no longer runs. Any other timer runs if the end
-- says so.
abbrev pub runs_before : Timer → Input → End → Bool
runs_before timer (Expiry expired) e = if is_same_timer timer expired then false else runs timer e
runs_before timer input e = runs timer e

-- T200 and T203 run as the outputs and their values before the step say. T201 and T202, which no
-- link has, are unchanged.
pub record FollowOuts (t200_before t203_before t200 t203 : Bool) (outs : List Out) : Type 0 where
  pub t200_follows : t200 ≡ runs_after T200 outs t200_before
  pub t203_follows : t203 ≡ runs_after T203 outs t203_before
  pub t201_stays : (running : Bool) → runs_after T201 outs running ≡ running
  pub t202_stays : (running : Bool) → runs_after T202 outs running ≡ running

-- the same for the step of an end by an input
abbrev pub TimersFollow : Input → End → StepState → Type 0
TimersFollow input e s = FollowOuts (runs_before T200 input e) (runs_before T203 input e) s.end.t200
    s.end.t203 s.outs
