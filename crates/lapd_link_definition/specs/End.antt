-- An end of a data link (Q.921 clause 5 and Annex B), between two steps and within one.
use Rattle.std.specs.Prelude.{ℕ, ◌-◌, Bool, false, List, [], length}
use Rattle.lapd_timers.specs.declared.timer.Timer.{Timer}
use Rattle.lapd_timers.specs.declared.timer.Timer.TheVariants.{T200, T201, T202, T203}
use Rattle.lapd_supervision.specs.StateVariables.{StateVariables, initial_variables}
use Rattle.lapd_link_definition.specs.declared.state.State.{State}
use Rattle.lapd_link_definition.specs.declared.state.State.TheVariants.{TeiAssigned}
use Rattle.lapd_link_definition.specs.declared.out.Out.{Out}
use Rattle.lapd_link_definition.specs.Parameters.{Parameters}

-- An end consists of:
--
-- - its parameters, its state and RC;
-- - V(S), V(A), V(R) with the busy, reject and acknowledge pending conditions;
-- - whether layer 3 initiated the establishment, and whether a release is pending until the answer
--   to the SABME;
-- - which timers run, and how many establishments it has had;
-- - all messages of layer 3 that were ever accepted; the place of the first that is neither
--   acknowledged nor dropped, and the place of the first that is not sent. In states 7 and 8
--   message number n of the present establishment is at place first + (n - V(A)).
pub record End : Type 0 where
  pub parameters : Parameters
  pub state : State
  pub rc : ℕ
  pub window : StateVariables
  pub layer3_initiated : Bool
  pub release_pending : Bool
  pub t200 : Bool
  pub t203 : Bool
  pub establishments : ℕ
  pub given : List (List ℕ)
  pub first : ℕ
  pub next : ℕ

-- a new end
abbrev pub new_end : Parameters → End
new_end parameters = record {
  parameters = parameters;
  state = TeiAssigned;
  rc = 0;
  window = initial_variables;
  layer3_initiated = false;
  release_pending = false;
  t200 = false;
  t203 = false;
  establishments = 0;
  given = [];
  first = 0;
  next = 0;
}

-- how many messages are in the queue, and how many of them are not sent
abbrev pub waiting : End → ℕ
waiting e = length e.given - e.first

abbrev pub unsent : End → ℕ
unsent e = length e.given - e.next

-- An end has only T200 and T203.
abbrev pub runs : Timer → End → Bool
runs T200 e = e.t200
runs T201 e = false
runs T202 e = false
runs T203 e = e.t203

abbrev pub with_timer : Timer → Bool → End → End
with_timer T200 running e = record e { t200 = running }
with_timer T201 running e = e
with_timer T202 running e = e
with_timer T203 running e = record e { t203 = running }

-- an end within a step, with its outputs so far
pub record StepState : Type 0 where
  pub end : End
  pub outs : List Out

unfoldable pub begin : End → StepState
begin e = record { end = e; outs = [] }

-- one action after another
infixl 10 ◌▷◌
abbrev pub ◌▷◌ : StepState → (StepState → StepState) → StepState
s ▷ action = action s
