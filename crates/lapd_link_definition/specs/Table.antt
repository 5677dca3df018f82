-- The state table (Q.921 Annex B): the effect of each input on an end, state by state. A pair of
-- state and input without a row has no output and changes nothing.
use Rattle.std.specs.Prelude.{if◌then◌else◌, Bool, true, false, Option, Some, None, Result, Ok, Err}
use Rattle.lapd_frame.specs.declared.Role.{Role}
use Rattle.lapd_frame.specs.declared.Role.TheVariants.{Command}
use Rattle.lapd_frame.specs.declared.Control.{Control}
use Rattle.lapd_frame.specs.declared.Control.TheVariants.{Ui}
use Rattle.lapd_frame.specs.declared.fault_kind.FaultKind.{FaultKind}
use Rattle.lapd_frame.specs.declared.fault_kind.FaultKind.TheVariants as fault
use Rattle.lapd_mod128.specs.Counting.{Reading}
use Rattle.lapd_link_definition.specs.declared.state.State.{State}
use Rattle.lapd_link_definition.specs.declared.state.State.TheVariants as state
use Rattle.lapd_link_definition.specs.declared.out.Letter.{Letter}
use Rattle.lapd_link_definition.specs.declared.out.Letter.TheVariants as letter
use Rattle.lapd_link_definition.specs.declared.out.Out.TheVariants.{SendUnit, UnitUp, Report}
use Rattle.lapd_link_definition.specs.declared.event.LinkFault.{LinkFault}
use Rattle.lapd_link_definition.specs.Input.{Input, Heard, Faulty, Expiry, UnitData}
use Rattle.lapd_link_definition.specs.End.{End, StepState, begin, ◌▷◌, runs}
use Rattle.lapd_link_definition.specs.Procedures.{put, reestablish_data_link}
use Rattle.lapd_link_definition.specs.Refusal.{refused}
use Rattle.lapd_link_definition.specs.TeiAssigned.{tei_assigned}
use Rattle.lapd_link_definition.specs.AwaitingEstablishment.{awaiting_establishment}
use Rattle.lapd_link_definition.specs.AwaitingRelease.{awaiting_release}
use Rattle.lapd_link_definition.specs.Established.{multiple_frame_established}
use Rattle.lapd_link_definition.specs.TimerRecovery.{timer_recovery}
use Rattle.lapd_link_definition.specs.EndOfStep.{end_step}

unfoldable pub by_state : Reading → State → Input → StepState → StepState
by_state r state.TeiAssigned input s = tei_assigned input s
by_state r state.AwaitingEstablishment input s = awaiting_establishment input s
by_state r state.AwaitingRelease input s = awaiting_release input s
by_state r state.MultipleFrameEstablished input s = multiple_frame_established r input s
by_state r state.TimerRecovery input s = timer_recovery r input s

-- the report of a fault in a frame (Q.921 3.6.11 and Appendix II)
abbrev pub fault_letter : FaultKind → Letter
fault_letter fault.Undefined = letter.L
fault_letter fault.InfoNotPermitted = letter.M
fault_letter fault.WrongSize = letter.N
fault_letter kind = letter.O

-- a fault is reported, and breaks an established link (5.8.5)
unfoldable pub report_fault : State → FaultKind → StepState → StepState
report_fault state.MultipleFrameEstablished kind s =
    s ▷ put (Report (fault_letter kind)) ▷ reestablish_data_link
report_fault state.TimerRecovery kind s = s ▷ put
    (Report (fault_letter kind)) ▷ reestablish_data_link
report_fault state kind s = s ▷ put (Report (fault_letter kind))

-- a UI command
abbrev pub is_unit_data : Control → Role → Bool
is_unit_data (Ui p) Command = true
is_unit_data control role = false

-- unit data is handled in every state (5.2), and a timer that does not run does not expire
unfoldable pub row : Reading → State → Input → StepState → StepState
row r state (Heard control role) s = if is_unit_data control role then s ▷ put UnitUp
    else s ▷ by_state r state (Heard control role)
row r state (UnitData len) s = s ▷ put SendUnit
row r state (Faulty kind) s = s ▷ report_fault state kind
row r state (Expiry timer) s = if runs timer s.end then s ▷ by_state r state (Expiry timer) else s
row r state input s = s ▷ by_state r state input

-- One step: the end after it with all its outputs, or a refusal. There is exactly one for each end
-- and input.
abbrev pub unless : Option LinkFault → StepState → Result StepState LinkFault
unless None s = Ok s
unless (Some fault) s = Err fault

unfoldable pub step : Reading → Input → End → Result StepState LinkFault
step r input e = unless (refused input e) (end_step r (row r e.state input (begin e)))
