-- Error reports (Q.921 Appendix II): the reports to which lost frames lead, and the inputs for
-- which no other report is made.
use Rattle.std.specs.Prelude.{not, ◌&&◌, ◌≡◌, Bool, true, false, List, [], ◌∷◌}
use Rattle.lapd_frame.specs.declared.Role.TheVariants.{Command, Answer}
use Rattle.lapd_frame.specs.declared.Control.{Control}
use Rattle.lapd_frame.specs.declared.Control.TheVariants.{I, Rr, Rnr, Rej, Dm, Ua, Frmr}
use Rattle.lapd_mod128.specs.Counting.{Reading}
use Rattle.lapd_supervision.specs.StateVariables.{StateVariables, is_valid_nr}
use Rattle.lapd_link_definition.specs.declared.state.State.{State}
use Rattle.lapd_link_definition.specs.declared.state.State.TheVariants.{AwaitingEstablishment, AwaitingRelease, MultipleFrameEstablished, TimerRecovery}
use Rattle.lapd_link_definition.specs.declared.out.Letter.{Letter}
use Rattle.lapd_link_definition.specs.declared.out.Letter.TheVariants as letter
use Rattle.lapd_link_definition.specs.declared.out.Out.{Out}
use Rattle.lapd_link_definition.specs.declared.out.Out.TheVariants.{Report}
use Rattle.lapd_link_definition.specs.EndOfStep.{is_established, is_7_or_8}
use Rattle.lapd_link_definition.specs.End.{End}
use Rattle.lapd_link_definition.specs.Input.{Input, Heard, Faulty}

-- F: the peer re-establishes the link; G, H and I: N200 is reached
abbrev pub IsExpected : Letter → Type 0
IsExpected letter.F = Unit {0}
IsExpected letter.G = Unit {0}
IsExpected letter.H = Unit {0}
IsExpected letter.I = Unit {0}
IsExpected other = ⊥

abbrev pub IsExpectedOut : Out → Type 0
IsExpectedOut (Report letter) = IsExpected letter
IsExpectedOut out = Unit {0}

-- no other letter is reported
abbrev pub AreExpected : List Out → Type 0
AreExpected [] = Unit {0}
AreExpected (out ∷ outs) = IsExpectedOut out × AreExpected outs

-- ---- Inputs that are due.

-- the SABME or the DISC is not answered yet
abbrev pub awaits_answer : State → Bool
awaits_answer AwaitingEstablishment = true
awaits_answer AwaitingRelease = true
awaits_answer state = false

-- A response is unsolicited in these cases: a UA without an unanswered SABME or DISC, and always a
-- UA with F=0; a DM and a FRMR in states 7 and 8; and a supervisory response with F=1 in state 7.
abbrev pub is_unasked : Control → State → Bool
is_unasked (Ua true) state = not (awaits_answer state)
is_unasked (Ua false) state = true
is_unasked (Dm f) state = is_7_or_8 state
is_unasked (Frmr f) state = is_7_or_8 state
is_unasked (Rr nr f) state = is_established state && f
is_unasked (Rnr nr f) state = is_established state && f
is_unasked (Rej nr f) state = is_established state && f
is_unasked control state = false

-- its N(R), if it has one, lies from V(A) to V(S) (3.5.2.3)
abbrev pub HasValidNumber : Reading → Control → StateVariables → Type 0
HasValidNumber r (I ns nr p) m = is_valid_nr r nr m ≡ true
HasValidNumber r (Rr nr pf) m = is_valid_nr r nr m ≡ true
HasValidNumber r (Rnr nr pf) m = is_valid_nr r nr m ≡ true
HasValidNumber r (Rej nr pf) m = is_valid_nr r nr m ≡ true
HasValidNumber r control m = Unit {0}

-- in states 7 and 8 N(R) is processed, and must be valid
abbrev pub IsNumberedIn : Reading → State → Control → StateVariables → Type 0
IsNumberedIn r MultipleFrameEstablished control m = HasValidNumber r control m
IsNumberedIn r TimerRecovery control m = HasValidNumber r control m
IsNumberedIn r state control m = Unit {0}

-- An input is due in a state with these variables if it is a command with a valid N(R), or a
-- response with a valid N(R) that is not unsolicited. A fault in a frame is not due.
abbrev pub IsDueIn : Reading → State → Input → StateVariables → Type 0
IsDueIn r state (Heard control Command) m = IsNumberedIn r state control m
IsDueIn r state (Heard control Answer) m = (is_unasked control state ≡ false)
    × IsNumberedIn r state control m
IsDueIn r state (Faulty kind) m = ⊥
IsDueIn r state input m = Unit {0}

abbrev pub IsDue : Reading → Input → End → Type 0
IsDue r input e = IsDueIn r e.state input e.window
