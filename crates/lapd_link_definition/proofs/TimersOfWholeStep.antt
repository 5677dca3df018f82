-- The timers after a whole step, and the laws about them.
use Rattle.std.proofs.Common.{◌≡◌, ℕ, not, Bool, true, false, Some, Ok, refl, subst, ap, ◌∙◌, arith, []}
use Rattle.lapd_timers.specs.declared.timer.Timer.TheVariants.{T200, T201, T202, T203}
use Rattle.lapd_mod128.specs.Counting.{Reading, Whole, Tagged, IsNumber}
use Rattle.lapd_supervision.specs.StateVariables.{StateVariables}
use Rattle.lapd_link_definition.specs.declared.state.State.{State}
use Rattle.lapd_link_definition.specs.declared.state.State.TheVariants.{TeiAssigned, MultipleFrameEstablished}
use Rattle.lapd_link_definition.specs.EndOfStep.{end_step}
use Rattle.lapd_link_definition.specs.End.{End, StepState, begin, new_end}
use Rattle.lapd_link_definition.specs.Input.{Input, Expiry}
use Rattle.lapd_link_definition.specs.Numbers.{AreNumbers, CarriesNumbers}
use Rattle.lapd_link_definition.specs.Parameters.{Parameters}
use Rattle.lapd_link_definition.specs.Refusal.{refused}
use Rattle.lapd_link_definition.specs.RunningTimers.{AreTimersOf, HasTimersOfState, runs_before, FollowOuts, TimersFollow}
use Rattle.lapd_link_definition.specs.Table.{by_state, row, step}
use Rattle.lapd_link_definition.proofs.EachAction.{received_number, either}
use Rattle.lapd_link_definition.proofs.PreservedByStep.{taken}
use Rattle.lapd_link_definition.proofs.NumbersOfStep.{received_is_tag}
use Rattle.lapd_link_definition.proofs.TimerFacts.{Walked, Allowed, IsOther}
use Rattle.lapd_link_definition.proofs.TimersOfStep.{in_row, expiring_200, expiring_203, closes}

-- ---- A whole step.

-- if T200 does not run in state 7, V(S) = V(A) is known
abbrev level_of : State → Bool → Bool
level_of MultipleFrameEstablished t = not t
level_of state t = false

at_first : (X : Type 0) (state : State) (t u : Bool) → AreTimersOf state t u X
    → Allowed state t u (level_of state t)
at_first X MultipleFrameEstablished t u h = (h.0, λ off. ap not off)
at_first X state t u h = h

same_at_first : (X : Type 0) (state : State) (t u : Bool) → AreTimersOf state t u X
    → level_of state t ≡ true → X
same_at_first X MultipleFrameEstablished false u h is = h.1 refl
same_at_first X state t u h is = cc

none_follow : (b c : Bool) → FollowOuts b c b c []
none_follow b c = record {
  t200_follows = refl;
  t203_follows = refl;
  t201_stays = λ on. refl;
  t202_stays = λ on. refl;
}

-- T200 does not run in state 4, or while T203 runs
off_203 : (X : Type 0) (state : State) (t u : Bool) → t ≡ true → AreTimersOf state t u X → u ≡ false
off_203 X MultipleFrameEstablished t u on h = h.0 ∙ ap not on
off_203 X state t u on h = h.1

not_in_4 : (X : Type 0) (state : State) (t u : Bool) → t ≡ true → AreTimersOf state t u X
    → state ≡ TeiAssigned → ⊥
not_in_4 X TeiAssigned t u on h is = let off = h.0 in cc
not_in_4 X state t u on h is = cc

-- T203 runs only in state 7
in_7_alone : (X : Type 0) (F : State → Type 0) (state : State) (t u : Bool) → u ≡ true
    → AreTimersOf state t u X → F MultipleFrameEstablished → F state
in_7_alone X F MultipleFrameEstablished t u on h in7 = in7
in_7_alone X F state t u on h in7 = let off = h.1 in cc

module _ (r : Reading) (Numbers : Type 0) (e : End) (has : HasTimersOfState e)
    (number : Numbers → IsNumber r e.window.va) where
  same_at : (b c : Bool) → e.t200 ≡ b → e.t203 ≡ c → Walked b c Numbers (begin e)
  unfolding begin
  same_at b c one two = record {
    timers = λ n. has;
    follow = record {
      t200_follows = one;
      t203_follows = two;
      t201_stays = λ on. refl;
      t202_stays = λ on. refl;
    };
  }

  other_row : (input : Input) → IsOther input
      → ((nr : ℕ) → received_number input ≡ Some nr → Numbers → IsNumber r nr)
      → Walked e.t200 e.t203 Numbers (row r e.state input (begin e))
  unfolding begin
  other_row input o small =
      in_row r e.t200 e.t203 Numbers e.state input (begin e) o small
      (at_first (e.window.vs ≡ e.window.va) e.state e.t200 e.t203 has)
      (record {
        known = record {
          in_state = refl;
          t200_is = refl;
          t203_is = refl;
          number = number;
          same = λ n
              is. same_at_first (e.window.vs ≡ e.window.va) e.state e.t200 e.t203 has is;
          follow = none_follow e.t200 e.t203;
        };
      })

  row_200 : e.t200 ≡ true → Walked false e.t203 Numbers (by_state r e.state (Expiry T200) (begin e))
  unfolding begin
  row_200 on =
      expiring_200 r false e.t203 Numbers {level = false} e.state (begin e)
      (not_in_4 (e.window.vs ≡ e.window.va) e.state e.t200 e.t203 on has)
      (record {
        known = record {
          in_state = refl;
          t200_is = refl;
          t203_is = off_203 (e.window.vs ≡ e.window.va) e.state e.t200 e.t203 on has;
          number = number;
          same = λ n is. cc;
          follow = none_follow false e.t203;
        };
      })

  row_203 : e.t203 ≡ true → Walked e.t200 false Numbers (by_state r e.state (Expiry T203) (begin e))
  unfolding begin
  row_203 on =
      in_7_alone (e.window.vs ≡ e.window.va)
      (λ state. e.state ≡ state → Walked e.t200 false Numbers
      (by_state r state (Expiry T203) (begin e))) e.state e.t200 e.t203 on has
      (λ is. expiring_203 r e.t200 false Numbers {t = e.t200} {level = false} (begin e)
      (record {
        known = record {
          in_state = is;
          t200_is = refl;
          t203_is = refl;
          number = number;
          same = λ n is. cc;
          follow = none_follow e.t200 false;
        };
      })) refl

  whole_row : (input : Input)
      → ((nr : ℕ) → received_number input ≡ Some nr → Numbers → IsNumber r nr)
      → Walked (runs_before T200 input e) (runs_before T203 input e) Numbers
      (row r e.state input (begin e))
  unfolding row begin
  whole_row (Expiry T200) small =
      either (Walked false e.t203 Numbers) e.t200 _ _ row_200 (λ off. same_at false e.t203 off refl)
  whole_row (Expiry T201) small = same_at e.t200 e.t203 refl refl
  whole_row (Expiry T202) small = same_at e.t200 e.t203 refl refl
  whole_row (Expiry T203) small =
      either (Walked e.t200 false Numbers) e.t203 _ _ row_203 (λ off. same_at e.t200 false refl off)
  whole_row input small = other_row input tt small

  whole_step : (input : Input) (s : StepState)
      → ((nr : ℕ) → received_number input ≡ Some nr → Numbers → IsNumber r nr)
      → step r input e ≡ Ok s
      → Walked (runs_before T200 input e) (runs_before T203 input e) Numbers s
  unfolding step
  whole_step input s small done =
      subst (λ x. Walked (runs_before T200 input e) (runs_before T203 input e) Numbers x)
      (taken (refused input e) (end_step r (row r e.state input (begin e))) s done).1
      (closes r (runs_before T200 input e) (runs_before T203 input e) Numbers
      (row r e.state input (begin e)) (whole_row input small))

-- ---- The laws.

va_is_number : (r : Reading) (m : StateVariables) → AreNumbers r m → IsNumber r m.va
va_is_number Whole m h = tt
va_is_number Tagged m h = h.1

received_is_number : (r : Reading) (input : Input) (nr : ℕ) → CarriesNumbers r input
    → received_number input ≡ Some nr → IsNumber r nr
received_is_number Whole input nr h same = tt
received_is_number Tagged input nr h same = received_is_tag input nr h same

step_of : (r : Reading) (input : Input) (e : End) (s : StepState) → HasTimersOfState e
    → step r input e ≡ Ok s
    → Walked (runs_before T200 input e) (runs_before T203 input e)
    (AreNumbers r e.window × CarriesNumbers r input) s
step_of r input e s has done =
    whole_step r (AreNumbers r e.window × CarriesNumbers r input) e has
    (λ n. va_is_number r e.window n.0) input s (λ nr same n. received_is_number r input nr n.1 same)
    done

pub timers_begin : (p : Parameters) → HasTimersOfState (new_end p)
timers_begin p = (refl, refl)

pub timers_stay : (r : Reading) (input : Input) (e : End) (s : StepState) → AreNumbers r e.window
    → CarriesNumbers r input → HasTimersOfState e → step r input e ≡ Ok s → HasTimersOfState s.end
timers_stay r input e s numbers reception has done =
    (step_of r input e s has done).timers (numbers, reception)

pub timers_follow : (r : Reading) (input : Input) (e : End) (s : StepState) → HasTimersOfState e
    → step r input e ≡ Ok s → TimersFollow input e s
timers_follow r input e s has done = (step_of r input e s has done).follow
