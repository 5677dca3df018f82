-- The end of a step: in state 7 messages are sent while the window is open, and then, in states 7
-- and 8, the acknowledgement that is still pending (Q.921 5.6.1, 5.6.2.2, Figures B.7 and B.8).
use Rattle.std.specs.Prelude.{ℕ, zero, suc, ◌&&◌, nat_lt, if◌then◌else◌, Bool, true, false, length}
use Rattle.lapd_mod128.specs.Counting.{Reading}
use Rattle.lapd_supervision.specs.StateVariables.{may_send}
use Rattle.lapd_link_definition.specs.declared.state.State.{State}
use Rattle.lapd_link_definition.specs.declared.state.State.TheVariants.{MultipleFrameEstablished, TimerRecovery}
use Rattle.lapd_link_definition.specs.End.{StepState, ◌▷◌, unsent}
use Rattle.lapd_link_definition.specs.Procedures.{transmit_i_frame, ensure_t200, transmit_rr}

-- state 7
abbrev pub is_established : State → Bool
is_established MultipleFrameEstablished = true
is_established state = false

-- states 7 and 8
abbrev pub is_7_or_8 : State → Bool
is_7_or_8 MultipleFrameEstablished = true
is_7_or_8 TimerRecovery = true
is_7_or_8 state = false

-- one more may be sent: the peer is not busy, fewer than k I frames are outstanding, and a message
-- is unsent
abbrev pub may_send_next : Reading → StepState → Bool
may_send_next r s = is_established s.end.state
    && (may_send r s.end.parameters.k s.end.window && nat_lt s.end.next (length s.end.given))

abbrev pub send_next : Reading → StepState → StepState
send_next r s = s ▷ transmit_i_frame r ▷ ensure_t200

-- sends at most this many
unfoldable pub send_all : Reading → ℕ → StepState → StepState
send_all r zero s = s
send_all r (suc n) s = if may_send_next r s then send_all r n (send_next r s) else s

unfoldable pub acknowledge_pending : StepState → StepState
acknowledge_pending s = if is_7_or_8 s.end.state && s.end.window.ack_pending then s ▷ transmit_rr
    else s

unfoldable pub end_step : Reading → StepState → StepState
end_step r s = s ▷ send_all r (unsent s.end) ▷ acknowledge_pending
