-- How a step on tags represents the step on whole numbers.
use Rattle.std.specs.Prelude.{◌≡◌, ℕ, ◌+◌, ◌<◌, ◌≤◌, true, map, Result, Ok, Err}
use Rattle.lapd_frame.specs.declared.Control.{Control}
use Rattle.lapd_frame.specs.declared.Control.TheVariants.{I, Rr, Rnr, Rej}
use Rattle.lapd_mod128.specs.Counting.{Whole, AreNear}
use Rattle.lapd_supervision.specs.StateVariables.{StateVariables}
use Rattle.lapd_supervision.specs.Tags.{tag_variables, tag_control, IsNearWindow}
use Rattle.lapd_link_definition.specs.declared.event.LinkFault.{LinkFault}
use Rattle.lapd_link_definition.specs.declared.out.Out.{Out}
use Rattle.lapd_link_definition.specs.declared.out.Out.TheVariants.{Send, SendMessage}
use Rattle.lapd_link_definition.specs.EndOfStep.{is_7_or_8}
use Rattle.lapd_link_definition.specs.End.{End, StepState}
use Rattle.lapd_link_definition.specs.Input.{Input, Heard}
use Rattle.lapd_link_definition.specs.Sound.{IsSound}

-- The same input or output with the tag of each sequence number and state variable. Places of
-- messages are not changed.
abbrev pub tag_input : Input → Input
tag_input (Heard control role) = Heard (tag_control control) role
tag_input input = input

abbrev pub tag_out : Out → Out
tag_out (Send role control) = Send role (tag_control control)
tag_out (SendMessage place control) = SendMessage place (tag_control control)
tag_out out = out

abbrev pub tag_end : End → End
tag_end e = record e { window = tag_variables e.window }

unfoldable pub tag_step_state : StepState → StepState
tag_step_state s = record { end = tag_end s.end; outs = map tag_out s.outs }

abbrev pub tag_result : Result StepState LinkFault → Result StepState LinkFault
tag_result (Ok s) = Ok (tag_step_state s)
tag_result (Err fault) = Err fault

-- N(S) lies within 127 of V(R), and N(R) within 127 of V(A) and of V(S)
abbrev pub HasNearNumbers : Control → StateVariables → Type 0
HasNearNumbers (I ns nr p) m = AreNear ns m.vr × IsNearWindow nr m.va m.vs
HasNearNumbers (Rr nr pf) m = IsNearWindow nr m.va m.vs
HasNearNumbers (Rnr nr pf) m = IsNearWindow nr m.va m.vs
HasNearNumbers (Rej nr pf) m = IsNearWindow nr m.va m.vs
HasNearNumbers control m = Unit {0}

abbrev pub IsReceivedNear : Input → StateVariables → Type 0
IsReceivedNear (Heard control role) m = HasNearNumbers control m
IsReceivedNear input m = Unit {0}

-- Bounds within which they are near, if k is the window of the sender: N(S) is at most one below
-- V(R) and less than k above it, and N(R) lies from V(A) to V(S).
abbrev pub LiesFromVaToVs : ℕ → StateVariables → Type 0
LiesFromVaToVs nr m = (m.va ≤ nr) × (nr ≤ m.vs)

abbrev pub HasNumbersWithin : ℕ → Control → StateVariables → Type 0
HasNumbersWithin k (I ns nr p) m = (m.vr ≤ ns + 1) × (ns < m.vr + k) × LiesFromVaToVs nr m
HasNumbersWithin k (Rr nr pf) m = LiesFromVaToVs nr m
HasNumbersWithin k (Rnr nr pf) m = LiesFromVaToVs nr m
HasNumbersWithin k (Rej nr pf) m = LiesFromVaToVs nr m
HasNumbersWithin k control m = Unit {0}

-- The conditions under which tags decide as whole numbers do: the window has at most 127 places,
-- the messages of the end are in order, and in states 7 and 8 the frames that it receives have
-- numbers near its own.
pub record IsNear (input : Input) (e : End) : Type 0 where
  pub window : e.parameters.k ≤ 127
  pub sound : IsSound Whole e
  pub reception : is_7_or_8 e.state ≡ true → IsReceivedNear input e.window
