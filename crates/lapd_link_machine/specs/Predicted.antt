-- The predicted steps: the frames that make one, and its outputs, which are returned as values in place
-- of a list.
use Rattle.std.specs.Prelude.{◌≡◌, ◌==◌, ◌&&◌, nat_lt, not, Bool, true, false, List, [], ◌∷◌, ◌++◌, length, Option, option_map}
use Rattle.lapd_frame.specs.Control.{field_of_response}
use Rattle.lapd_frame.specs.declared.Response.{Response}
use Rattle.lapd_frame.specs.declared.Control.{Control}
use Rattle.lapd_frame.specs.declared.Control.TheVariants.{I, Rr}
use Rattle.lapd_frame.specs.declared.Role.{Role}
use Rattle.lapd_frame.specs.declared.Role.TheVariants.{Command, Answer}
use Rattle.lapd_mod128.specs.Counting.{Tagged}
use Rattle.lapd_supervision.specs.StateVariables.{StateVariables, is_accepted, is_valid_nr}
use Rattle.lapd_timers.specs.declared.timer.Timer.TheVariants.{T200, T203}
use Rattle.lapd_link_definition.specs.declared.state.State.TheVariants.{MultipleFrameEstablished}
use Rattle.lapd_link_definition.specs.declared.out.Out.{Out}
use Rattle.lapd_link_definition.specs.declared.out.Out.TheVariants.{Up, Acknowledged, Start, Stop}
use Rattle.lapd_link_definition.specs.End.{End}
use Rattle.lapd_link_definition.specs.EndOfStep.{is_established}
use Rattle.lapd_link_definition.specs.Procedures.{out_where, counted, response_of}
use Rattle.lapd_link_machine.specs.declared.machine.Machine.{Machine}
use Rattle.lapd_link_machine.specs.declared.machine.predicted.NrEffect.{NrEffect}
use Rattle.lapd_link_machine.specs.declared.machine.predicted.NrEffect.TheVariants.{All, Part, Nothing}
use Rattle.lapd_link_machine.specs.declared.machine.predicted.PredictedOuts.{PredictedOuts}

-- the outputs of an N(R)
abbrev pub nr_outs : NrEffect → List Out
nr_outs (All count stops) =
    counted count Acknowledged ++ out_where stops (Stop T200) ++ Start T203 ∷ []
nr_outs (Part count) = counted count Acknowledged ++ Start T200 ∷ []
nr_outs Nothing = []

-- the output of a response, if there is one
abbrev pub response_outs : Option Response → List Out
response_outs response = response_of (option_map field_of_response response)

-- the outputs of the step
abbrev pub predicted_outs : PredictedOuts → List Out
predicted_outs u = response_outs u.response ++ out_where u.is_up Up ++ nr_outs u.nr
    ++ response_outs u.acknowledgement

-- ---- The frames that make a predicted step.

-- state 7, and no message is unsent
abbrev pub is_idle : End → Bool
is_idle e = is_established e.state && not (nat_lt e.next (length e.given))

-- The frame is an I command with P=0 that is accepted while the peer is not busy (Q.921 5.6.2), an
-- RR command with P=1, or an RR response with F=0 (5.6.3), and its N(R) is valid.
abbrev pub is_predicted_frame : Control → Role → StateVariables → Bool
is_predicted_frame (I ns nr false) Command v =
    not v.peer_busy && (is_accepted ns v && is_valid_nr Tagged nr v)
is_predicted_frame (Rr nr true) Command v = is_valid_nr Tagged nr v
is_predicted_frame (Rr nr false) Answer v = is_valid_nr Tagged nr v
is_predicted_frame control role v = false

-- a received frame makes a predicted step of this end
abbrev pub is_predicted : Control → Role → End → Bool
is_predicted control role e = is_idle e && is_predicted_frame control role e.window

-- ---- The machine.

-- state 7, and every message in the queue is sent
abbrev pub is_idle_machine : Machine → Bool
is_idle_machine m = is_established m.state && (m.queue.sent == length m.queue.messages)

pub record IsIdle (m : Machine) : Type 0 where
  pub state : m.state ≡ MultipleFrameEstablished
  pub sent : m.queue.sent ≡ length m.queue.messages
