-- State 5, awaiting establishment (Q.921 Figure B.5).
use Rattle.std.specs.Prelude.{nat_lt, if◌then◌else◌, Bool, true, false}
use Rattle.lapd_frame.specs.declared.Role.TheVariants.{Command, Answer}
use Rattle.lapd_frame.specs.declared.Control.TheVariants.{Sabme, Dm, Disc, Ua}
use Rattle.lapd_timers.specs.declared.timer.Timer.TheVariants.{T200, T203}
use Rattle.lapd_link_definition.specs.declared.state.State.TheVariants.{TeiAssigned, AwaitingRelease, MultipleFrameEstablished}
use Rattle.lapd_link_definition.specs.declared.out.Letter.TheVariants as letter
use Rattle.lapd_link_definition.specs.declared.out.Out.{Out}
use Rattle.lapd_link_definition.specs.declared.out.Out.TheVariants.{Send, Confirmed, Released, ReleaseConfirm, Report}
use Rattle.lapd_link_definition.specs.Input.{Input, Heard, Expiry, Establish, Release, Give}
use Rattle.lapd_link_definition.specs.End.{StepState, ◌▷◌}
use Rattle.lapd_link_definition.specs.Procedures.{put, state_to, rc_to, increment_rc, layer3_initiated_to, release_pending_to, start, stop, expired, zero_state_variables, queue_up, discard_i_queue, discard_unacknowledged}

-- a release that layer 3 requested is confirmed, any other is indicated
abbrev pub release_primitive : Bool → Out
release_primitive true = ReleaseConfirm
release_primitive false = Released

-- the SABME was refused, or never answered
unfoldable pub end_establishment : StepState → StepState
end_establishment s = s ▷ put (release_primitive s.end.release_pending) ▷ release_pending_to false ▷
    state_to TeiAssigned

-- If layer 3 initiated the establishment, it is confirmed. Else, if V(S) = V(A) does not hold,
-- messages are lost, and the establishment is indicated to layer 3.
unfoldable pub confirm_or_indicate : StepState → StepState
confirm_or_indicate s = if s.end.layer3_initiated then s ▷ put Confirmed
    else s ▷ discard_unacknowledged

-- UA with F=1: a pending release is sent now, else the link is established
unfoldable pub ua_final : StepState → StepState
ua_final s =
    if s.end.release_pending
    then s ▷ release_pending_to false ▷ rc_to 0 ▷ put
    (Send Command (Disc true)) ▷ start T200 ▷ state_to AwaitingRelease
    else s ▷ confirm_or_indicate ▷ zero_state_variables ▷ stop T200 ▷ start T203 ▷ state_to
    MultipleFrameEstablished

-- T200 expires: the SABME is retransmitted, N200 times at most (5.5.1.3)
unfoldable pub awaiting_establishment_t200 : StepState → StepState
awaiting_establishment_t200 s =
    if nat_lt s.end.rc s.end.parameters.n200
    then s ▷ increment_rc ▷ expired T200 ▷ put (Send Command (Sabme true)) ▷ start T200
    else s ▷ expired T200 ▷ discard_i_queue ▷ put (Report letter.G) ▷ end_establishment

unfoldable pub awaiting_establishment : Input → StepState → StepState
awaiting_establishment Establish s = s ▷ discard_i_queue ▷ layer3_initiated_to true
awaiting_establishment Release s = s ▷ discard_i_queue ▷ release_pending_to true
awaiting_establishment (Give message) s = s ▷ queue_up message
awaiting_establishment (Heard (Sabme p) Command) s = s ▷ put (Send Answer (Ua p))
awaiting_establishment (Heard (Disc p) Command) s = s ▷ put (Send Answer (Dm p))
awaiting_establishment (Heard (Ua true) Answer) s = s ▷ ua_final
awaiting_establishment (Heard (Ua false) Answer) s = s ▷ put (Report letter.D)
awaiting_establishment (Heard (Dm true) Answer) s =
    s ▷ discard_i_queue ▷ stop T200 ▷ end_establishment
awaiting_establishment (Expiry T200) s = s ▷ awaiting_establishment_t200
awaiting_establishment input s = s
