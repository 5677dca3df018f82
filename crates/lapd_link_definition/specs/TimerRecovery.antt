-- State 8, timer recovery (Q.921 Figure B.8): an enquiry was sent, and a response with F=1 answers
-- it.
use Rattle.std.specs.Prelude.{ℕ, nat_lt, if◌then◌else◌, Bool, true, false}
use Rattle.lapd_frame.specs.declared.Role.{Role}
use Rattle.lapd_frame.specs.declared.Role.TheVariants.{Command, Answer}
use Rattle.lapd_frame.specs.declared.Control.TheVariants.{I, Rr, Rnr, Rej, Dm}
use Rattle.lapd_timers.specs.declared.timer.Timer.TheVariants.{T200, T203}
use Rattle.lapd_mod128.specs.Counting.{Reading}
use Rattle.lapd_supervision.specs.StateVariables.{is_valid_nr}
use Rattle.lapd_link_definition.specs.declared.state.State.TheVariants.{MultipleFrameEstablished}
use Rattle.lapd_link_definition.specs.declared.out.Letter.TheVariants as letter
use Rattle.lapd_link_definition.specs.declared.out.Out.TheVariants.{Report}
use Rattle.lapd_link_definition.specs.Input.{Input, Heard, Expiry}
use Rattle.lapd_link_definition.specs.End.{StepState, ◌▷◌}
use Rattle.lapd_link_definition.specs.Procedures.{put, state_to, increment_rc, start, stop, expired, set_peer_busy, enquiry_response, transmit_enquiry, acknowledge, invoke_retransmission, i_frame_ns, reestablish_data_link, nr_error_recovery}
use Rattle.lapd_link_definition.specs.Established.{in_7_and_8}

-- a command with P=1 is answered
unfoldable pub poll : Role → Bool → StepState → StepState
poll Command true s = s ▷ enquiry_response
poll Answer true s = s
poll role false s = s

-- a response with F=1
abbrev pub is_final : Role → Bool → Bool
is_final Answer final = final
is_final Command poll = false

-- the N(R) of an I frame
unfoldable pub i_frame_nr_in_recovery : Reading → ℕ → StepState → StepState
i_frame_nr_in_recovery r nr s = if is_valid_nr r nr s.end.window then s ▷ acknowledge r nr
    else s ▷ nr_error_recovery

-- the N(R) of an RR or REJ frame; a final ends the recovery
unfoldable pub rr_nr_in_recovery : Reading → Bool → ℕ → StepState → StepState
rr_nr_in_recovery r final nr s =
    if is_valid_nr r nr s.end.window
    then (if final then s ▷ acknowledge r nr ▷ invoke_retransmission nr ▷ stop T200 ▷ start T203 ▷
    state_to MultipleFrameEstablished else s ▷ acknowledge r nr)
    else s ▷ nr_error_recovery

-- the N(R) of an RNR frame
unfoldable pub rnr_nr_in_recovery : Reading → Bool → ℕ → StepState → StepState
rnr_nr_in_recovery r final nr s =
    if is_valid_nr r nr s.end.window
    then (if final then s ▷ acknowledge r nr ▷ invoke_retransmission nr ▷ start T200 ▷ state_to
    MultipleFrameEstablished else s ▷ acknowledge r nr)
    else s ▷ nr_error_recovery

-- T200 expires: the enquiry is retransmitted, N200 times at most (5.6.7)
unfoldable pub timer_recovery_t200 : StepState → StepState
timer_recovery_t200 s =
    if nat_lt s.end.rc s.end.parameters.n200
    then s ▷ increment_rc ▷ expired T200 ▷ transmit_enquiry
    else s ▷ expired T200 ▷ put (Report letter.I) ▷ reestablish_data_link

unfoldable pub timer_recovery : Reading → Input → StepState → StepState
timer_recovery r (Heard (I ns nr p) Command) s = s ▷ i_frame_ns r ns p ▷ i_frame_nr_in_recovery r nr
timer_recovery r (Heard (Dm true) Answer) s = s ▷ put (Report letter.B) ▷ reestablish_data_link
timer_recovery r (Heard (Rr nr pf) role) s = s ▷ set_peer_busy false ▷ poll role pf ▷
    rr_nr_in_recovery r (is_final role pf) nr
timer_recovery r (Heard (Rej nr pf) role) s =
    s ▷ set_peer_busy false ▷ poll role pf ▷ rr_nr_in_recovery r (is_final role pf) nr
timer_recovery r (Heard (Rnr nr pf) role) s =
    s ▷ set_peer_busy true ▷ poll role pf ▷ rnr_nr_in_recovery r (is_final role pf) nr
timer_recovery r (Expiry T200) s = s ▷ timer_recovery_t200
timer_recovery r input s = s ▷ in_7_and_8 input
