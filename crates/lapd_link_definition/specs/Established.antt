-- State 7, multiple frame established (Q.921 Figure B.7), and the rows that it shares with state 8.
use Rattle.std.specs.Prelude.{ℕ, ◌==◌, ◌&&◌, if◌then◌else◌, not, Bool, true, false}
use Rattle.lapd_frame.specs.declared.Role.{Role}
use Rattle.lapd_frame.specs.declared.Role.TheVariants.{Command, Answer}
use Rattle.lapd_frame.specs.declared.Control.TheVariants.{I, Rr, Rnr, Rej, Sabme, Dm, Disc, Ua, Frmr}
use Rattle.lapd_timers.specs.declared.timer.Timer.TheVariants.{T200, T203}
use Rattle.lapd_mod128.specs.Counting.{Reading}
use Rattle.lapd_supervision.specs.StateVariables.{StateVariables, is_valid_nr, acknowledges_all}
use Rattle.lapd_link_definition.specs.declared.recovery.Recovery.{Recovery}
use Rattle.lapd_link_definition.specs.declared.recovery.Recovery.TheVariants.{Enquiry, LastMessage}
use Rattle.lapd_link_definition.specs.declared.state.State.TheVariants.{TeiAssigned, AwaitingRelease, MultipleFrameEstablished, TimerRecovery}
use Rattle.lapd_link_definition.specs.declared.out.Letter.TheVariants as letter
use Rattle.lapd_link_definition.specs.declared.out.Out.TheVariants.{Send, Released, Report}
use Rattle.lapd_link_definition.specs.Input.{Input, Heard, Expiry, Establish, Release, BusyOn, BusyOff, Give}
use Rattle.lapd_link_definition.specs.End.{StepState, ◌▷◌}
use Rattle.lapd_link_definition.specs.Procedures.{put, state_to, rc_to, layer3_initiated_to, start, stop, expired, clear_exception_conditions, zero_state_variables, set_peer_busy, set_own_busy, enquiry_response, transmit_enquiry, retransmit_last_i_frame, queue_up, discard_i_queue, acknowledge, invoke_retransmission, discard_unacknowledged, i_frame_ns, establish_data_link, reestablish_data_link, nr_error_recovery}
use Rattle.lapd_link_definition.specs.TeiAssigned.{unsolicited_ua}

-- ---- States 7 and 8.

-- own receiver busy begins or ends, if it changes (5.6.6)
unfoldable pub busy_on : StepState → StepState
busy_on s = if s.end.window.own_busy then s else s ▷ set_own_busy true

unfoldable pub busy_off : StepState → StepState
busy_off s = if s.end.window.own_busy then s ▷ set_own_busy false else s

unfoldable pub in_7_and_8 : Input → StepState → StepState
in_7_and_8 Establish s = s ▷ discard_i_queue ▷ layer3_initiated_to true ▷ establish_data_link
in_7_and_8 Release s = s ▷ discard_i_queue ▷ rc_to 0 ▷ put
    (Send Command (Disc true)) ▷ stop T203 ▷ start T200 ▷ state_to AwaitingRelease
in_7_and_8 (Give message) s = s ▷ queue_up message
in_7_and_8 BusyOn s = s ▷ busy_on
in_7_and_8 BusyOff s = s ▷ busy_off
in_7_and_8 (Heard (Sabme p) Command) s =
    s ▷ put (Send Answer (Ua p)) ▷ clear_exception_conditions ▷ put
    (Report letter.F) ▷ discard_unacknowledged ▷ stop T200 ▷ start T203 ▷ zero_state_variables ▷
    state_to MultipleFrameEstablished
in_7_and_8 (Heard (Disc p) Command) s = s ▷ discard_i_queue ▷ put
    (Send Answer (Ua p)) ▷ put Released ▷ stop T200 ▷ stop T203 ▷ state_to TeiAssigned
in_7_and_8 (Heard (Ua f) Answer) s = s ▷ put (Report (unsolicited_ua f))
in_7_and_8 (Heard (Dm false) Answer) s = s ▷ put (Report letter.E) ▷ reestablish_data_link
in_7_and_8 (Heard (Frmr f) Answer) s = s ▷ put (Report letter.K) ▷ reestablish_data_link
in_7_and_8 input s = s

-- ---- State 7.

-- a command with P=1 is answered, and a response with F=1 is unsolicited
unfoldable pub poll_or_final : Role → Bool → StepState → StepState
poll_or_final Command true s = s ▷ enquiry_response
poll_or_final Answer true s = s ▷ put (Report letter.A)
poll_or_final role false s = s

-- A valid N(R) of an RR frame, and of an I frame while the peer is not busy: it acknowledges all,
-- nothing new, or some.
unfoldable pub acknowledge_with_timers : Reading → ℕ → StepState → StepState
acknowledge_with_timers r nr s =
    if acknowledges_all nr s.end.window then s ▷ acknowledge r nr ▷ stop T200 ▷ start T203 else (
    if nr == s.end.window.va then s else s ▷ acknowledge r nr ▷ start T200)

-- the N(R) of an I frame; while the peer is busy, T200 keeps running
unfoldable pub i_frame_nr : Reading → ℕ → StepState → StepState
i_frame_nr r nr s =
    if is_valid_nr r nr s.end.window
    then (if s.end.window.peer_busy then s ▷ acknowledge r nr else s ▷ acknowledge_with_timers r nr)
    else s ▷ nr_error_recovery

-- the N(R) of an RR frame
unfoldable pub rr_nr : Reading → ℕ → StepState → StepState
rr_nr r nr s = if is_valid_nr r nr s.end.window then s ▷ acknowledge_with_timers r nr
    else s ▷ nr_error_recovery

-- the N(R) of a REJ frame
unfoldable pub rej_nr : Reading → ℕ → StepState → StepState
rej_nr r nr s =
    if is_valid_nr r nr s.end.window then s ▷ acknowledge r nr ▷ invoke_retransmission nr ▷ stop
    T200 ▷ start T203 else s ▷ nr_error_recovery

-- the N(R) of an RNR frame
unfoldable pub rnr_nr : Reading → ℕ → StepState → StepState
rnr_nr r nr s = if is_valid_nr r nr s.end.window then s ▷ acknowledge r nr ▷ stop T203 ▷ start T200
    else s ▷ nr_error_recovery

-- the recovery is `LastMessage`, the peer is not busy, and a message is outstanding
abbrev pub sends_last : Recovery → StateVariables → Bool
sends_last Enquiry v = false
sends_last LastMessage v = not v.peer_busy && not (v.vs == v.va)

-- T200 expires: the last I frame is retransmitted, or an enquiry is sent (5.6.7)
unfoldable pub established_t200 : Reading → StepState → StepState
established_t200 r s =
    if sends_last s.end.parameters.recovery s.end.window
    then s ▷ expired T200 ▷ retransmit_last_i_frame r ▷ rc_to 1 ▷ state_to TimerRecovery
    else s ▷ expired T200 ▷ transmit_enquiry ▷ rc_to 1 ▷ state_to TimerRecovery

unfoldable pub multiple_frame_established : Reading → Input → StepState → StepState
multiple_frame_established r (Heard (I ns nr p) Command) s = s ▷ i_frame_ns r ns p ▷ i_frame_nr r nr
multiple_frame_established r (Heard (Dm true) Answer) s = s ▷ put (Report letter.B)
multiple_frame_established r (Heard (Rr nr pf) role) s =
    s ▷ set_peer_busy false ▷ poll_or_final role pf ▷ rr_nr r nr
multiple_frame_established r (Heard (Rej nr pf) role) s =
    s ▷ set_peer_busy false ▷ poll_or_final role pf ▷ rej_nr r nr
multiple_frame_established r (Heard (Rnr nr pf) role) s =
    s ▷ set_peer_busy true ▷ poll_or_final role pf ▷ rnr_nr r nr
multiple_frame_established r (Expiry T203) s =
    s ▷ expired T203 ▷ rc_to 0 ▷ transmit_enquiry ▷ state_to TimerRecovery
multiple_frame_established r (Expiry T200) s = s ▷ established_t200 r
multiple_frame_established r input s = s ▷ in_7_and_8 input
