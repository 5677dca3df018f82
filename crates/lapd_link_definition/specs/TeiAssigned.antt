-- State 4, TEI assigned (Q.921 Figure B.4).
use Rattle.std.specs.Prelude.{Bool, true, false}
use Rattle.lapd_frame.specs.declared.Role.TheVariants.{Command, Answer}
use Rattle.lapd_frame.specs.declared.Control.TheVariants.{Sabme, Dm, Disc, Ua}
use Rattle.lapd_timers.specs.declared.timer.Timer.TheVariants.{T203}
use Rattle.lapd_link_definition.specs.declared.state.State.TheVariants.{MultipleFrameEstablished}
use Rattle.lapd_link_definition.specs.declared.out.Letter.{Letter}
use Rattle.lapd_link_definition.specs.declared.out.Letter.TheVariants as letter
use Rattle.lapd_link_definition.specs.declared.out.Out.TheVariants.{Send, Established, ReleaseConfirm, Report}
use Rattle.lapd_link_definition.specs.Input.{Input, Heard, Establish, Release}
use Rattle.lapd_link_definition.specs.End.{StepState, ◌▷◌}
use Rattle.lapd_link_definition.specs.Procedures.{put, state_to, layer3_initiated_to, start, clear_exception_conditions, zero_state_variables, discard_i_queue, establish_data_link}

-- the report of an unsolicited UA: C, or D if F is 0 (Appendix II)
abbrev pub unsolicited_ua : Bool → Letter
unsolicited_ua true = letter.C
unsolicited_ua false = letter.D

unfoldable pub tei_assigned : Input → StepState → StepState
tei_assigned Establish s = s ▷ discard_i_queue ▷ layer3_initiated_to true ▷ establish_data_link
tei_assigned Release s = s ▷ put ReleaseConfirm
tei_assigned (Heard (Sabme p) Command) s = s ▷ put
    (Send Answer (Ua p)) ▷ clear_exception_conditions ▷ zero_state_variables ▷ put Established ▷
    start T203 ▷ state_to MultipleFrameEstablished
tei_assigned (Heard (Disc p) Command) s = s ▷ put (Send Answer (Dm p))
tei_assigned (Heard (Ua f) Answer) s = s ▷ put (Report (unsolicited_ua f))
tei_assigned input s = s
