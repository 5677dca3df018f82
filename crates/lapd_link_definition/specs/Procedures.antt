-- The actions of the state table (Q.921 Annex B; its procedures are those of Figure B.9).
--
-- Numbers are counted and compared only by `after`, `steps` and `lies_within`. So each action has
-- two readings: whole, with unbounded numbers also in frames, and tagged, with the numbers 0 to
-- 127. Each action is one record update, and tests are inside its fields.
use Rattle.std.specs.Prelude.{ℕ, ◌+◌, ◌-◌, ◌==◌, ◌&&◌, nat_lt, if◌then◌else◌, Bool, true, false, List, [], ◌∷◌, ◌++◌, length, Option, Some, None}
use Rattle.lapd_timers.specs.declared.timer.Timer.{Timer}
use Rattle.lapd_timers.specs.declared.timer.Timer.TheVariants.{T200, T203}
use Rattle.lapd_frame.specs.declared.Role.TheVariants.{Command, Answer}
use Rattle.lapd_frame.specs.declared.Control.{Control}
use Rattle.lapd_frame.specs.declared.Control.TheVariants.{Sabme}
use Rattle.lapd_mod128.specs.Counting.{Reading}
use Rattle.lapd_supervision.specs.StateVariables.{without_exceptions, with_zero_counters, status_frame, acknowledgement, without_ack_pending, is_accepted, after_i_frame, i_frame_response, with_va, acknowledged_count, with_vs, next_i_frame, last_i_frame, after_sending, with_own_busy, with_peer_busy}
use Rattle.lapd_link_definition.specs.declared.state.State.{State}
use Rattle.lapd_link_definition.specs.declared.state.State.TheVariants.{AwaitingEstablishment}
use Rattle.lapd_link_definition.specs.declared.out.Letter.TheVariants as letter
use Rattle.lapd_link_definition.specs.declared.out.Out.{Out}
use Rattle.lapd_link_definition.specs.declared.out.Out.TheVariants.{Send, SendMessage, Up, Established, Acknowledged, Dropped, Start, Stop, Report}
use Rattle.lapd_link_definition.specs.End.{StepState, ◌▷◌, waiting, runs, with_timer}

-- ---- Outputs.

-- an output, if the mark is set
abbrev pub out_where : Bool → Out → List Out
out_where true out = out ∷ []
out_where false out = []

-- a count, if it is above 0
abbrev pub counted : ℕ → (ℕ → Out) → List Out
counted n out = out_where (nat_lt 0 n) (out n)

-- a response, if there is one
abbrev pub response_of : Option Control → List Out
response_of None = []
response_of (Some control) = Send Answer control ∷ []

unfoldable pub put : Out → StepState → StepState
put out s = record { end = s.end; outs = s.outs ++ out ∷ [] }

-- ---- Actions that set one value.

unfoldable pub state_to : State → StepState → StepState
state_to state s = record { end = record (s.end) { state = state }; outs = s.outs }

unfoldable pub rc_to : ℕ → StepState → StepState
rc_to n s = record { end = record (s.end) { rc = n }; outs = s.outs }

-- RC = RC + 1
unfoldable pub increment_rc : StepState → StepState
increment_rc s = record { end = record (s.end) { rc = s.end.rc + 1 }; outs = s.outs }

unfoldable pub layer3_initiated_to : Bool → StepState → StepState
layer3_initiated_to on s = record { end = record (s.end) { layer3_initiated = on }; outs = s.outs }

unfoldable pub release_pending_to : Bool → StepState → StepState
release_pending_to on s = record { end = record (s.end) { release_pending = on }; outs = s.outs }

-- ---- Timers.

-- START: the timer is started or restarted
unfoldable pub start : Timer → StepState → StepState
start timer s = record { end = with_timer timer true s.end; outs = s.outs ++ Start timer ∷ [] }

-- STOP: a timer that runs is stopped
unfoldable pub stop : Timer → StepState → StepState
stop timer s = record {
  end = with_timer timer false s.end;
  outs = s.outs ++ out_where (runs timer s.end) (Stop timer);
}

-- a timer that has expired no longer runs
unfoldable pub expired : Timer → StepState → StepState
expired timer s = record { end = with_timer timer false s.end; outs = s.outs }

-- ---- State variables and conditions.

-- CLEAR EXCEPTION CONDITIONS: peer busy, own busy, rejecting and acknowledge pending
unfoldable pub clear_exception_conditions : StepState → StepState
clear_exception_conditions s =
    record { end = record (s.end) { window = without_exceptions s.end.window }; outs = s.outs }

-- V(S) = V(A) = V(R) = 0, and with it an establishment begins (5.5.1.2)
unfoldable pub zero_state_variables : StepState → StepState
zero_state_variables s = record {
  end = record (s.end) {
    window = with_zero_counters s.end.window;
    establishments = s.end.establishments + 1;
  };
  outs = s.outs;
}

-- SET or CLEAR PEER RECEIVER BUSY
unfoldable pub set_peer_busy : Bool → StepState → StepState
set_peer_busy on s = record {
  end = record (s.end) { window = with_peer_busy on s.end.window };
  outs = s.outs;
}

-- SET or CLEAR OWN RECEIVER BUSY, and report it to the peer (5.6.6)
unfoldable pub set_own_busy : Bool → StepState → StepState
set_own_busy on s = record {
  end = record (s.end) { window = with_own_busy on s.end.window };
  outs = s.outs ++ Send Answer (status_frame false (with_own_busy on s.end.window)) ∷ [];
}

-- ENQUIRY RESPONSE: a poll is answered
unfoldable pub enquiry_response : StepState → StepState
enquiry_response s = record {
  end = record (s.end) { window = without_ack_pending s.end.window };
  outs = s.outs ++ Send Answer (status_frame true s.end.window) ∷ [];
}

-- TRANSMIT ENQUIRY: the peer is polled, and T200 started
unfoldable pub transmit_enquiry : StepState → StepState
transmit_enquiry s = record {
  end = record (s.end) {
    window = without_ack_pending s.end.window;
    t200 = true;
  };
  outs = s.outs ++ Send Command (status_frame true s.end.window) ∷ Start T200
      ∷ [];
}

-- the pending acknowledgement is sent
unfoldable pub transmit_rr : StepState → StepState
transmit_rr s = record {
  end = record (s.end) { window = without_ack_pending s.end.window };
  outs = s.outs ++ Send Answer (acknowledgement s.end.window) ∷ [];
}

-- ---- The I queue.

-- a message of layer 3 joins it
unfoldable pub queue_up : List ℕ → StepState → StepState
queue_up message s = record {
  end = record (s.end) { given = s.end.given ++ message ∷ [] };
  outs = s.outs;
}

-- DISCARD I QUEUE
unfoldable pub discard_i_queue : StepState → StepState
discard_i_queue s = record {
  end = record (s.end) {
    first = length s.end.given;
    next = length s.end.given;
  };
  outs = s.outs ++ counted (waiting s.end) Dropped;
}

-- V(A) = N(R): the messages before it are acknowledged and removed from the queue (5.6.3.2)
unfoldable pub acknowledge : Reading → ℕ → StepState → StepState
acknowledge r nr s = record {
  end = record (s.end) {
    window = with_va nr s.end.window;
    first = s.end.first + acknowledged_count r nr s.end.window;
  };
  outs = s.outs ++ counted (acknowledged_count r nr s.end.window) Acknowledged;
}

-- INVOKE RETRANSMISSION, after V(A) = N(R): V(S) = N(R), and all remaining messages are to be
-- retransmitted
unfoldable pub invoke_retransmission : ℕ → StepState → StepState
invoke_retransmission nr s = record {
  end = record (s.end) {
    window = with_vs nr s.end.window;
    next = s.end.first;
  };
  outs = s.outs;
}

-- if V(S) = V(A) does not hold, DISCARD I QUEUE and an indication of the establishment
unfoldable pub discard_unacknowledged : StepState → StepState
discard_unacknowledged s = record {
  end = record (s.end) {
    first = if s.end.window.vs == s.end.window.va then s.end.first else length s.end.given;
    next = if s.end.window.vs == s.end.window.va then s.end.next else length s.end.given;
  };
  outs = s.outs ++ (if s.end.window.vs == s.end.window.va then []
      else counted (waiting s.end) Dropped ++ Established ∷ []);
}

-- The N(S) of an I frame: the frame is accepted, rejected or discarded, and its poll is answered
-- (5.6.2, 5.6.6, 5.8.1).
unfoldable pub i_frame_ns : Reading → ℕ → Bool → StepState → StepState
i_frame_ns r ns p s = record {
  end = record (s.end) { window = after_i_frame r ns p s.end.window };
  outs = s.outs ++ out_where (is_accepted ns s.end.window) Up
      ++ response_of (i_frame_response r ns p s.end.window);
}

-- the first unsent message is sent in an I frame (5.6.1)
unfoldable pub transmit_i_frame : Reading → StepState → StepState
transmit_i_frame r s = record {
  end = record (s.end) { window = after_sending r s.end.window; next = s.end.next + 1 };
  outs = s.outs ++ SendMessage (s.end.next - s.end.first) (next_i_frame s.end.window) ∷ [];
}

-- the last sent message is retransmitted, with P=1, and T200 is started (5.6.7 b)
unfoldable pub retransmit_last_i_frame : Reading → StepState → StepState
retransmit_last_i_frame r s = record {
  end = record (s.end) { window = without_ack_pending s.end.window; t200 = true };
  outs = s.outs ++ SendMessage (s.end.next - 1 - s.end.first) (last_i_frame r s.end.window)
      ∷ Start T200 ∷ [];
}

-- if T200 does not run, STOP T203 and START T200
unfoldable pub ensure_t200 : StepState → StepState
ensure_t200 s = record {
  end = record (s.end) { t200 = true; t203 = s.end.t200 && s.end.t203 };
  outs = s.outs ++ (if s.end.t200 then [] else out_where s.end.t203 (Stop T203))
      ++ (if s.end.t200 then [] else Start T200 ∷ []);
}

-- ---- Procedures made of these actions.

-- ESTABLISH DATA LINK
unfoldable pub establish_data_link : StepState → StepState
establish_data_link s = s ▷ clear_exception_conditions ▷ release_pending_to false ▷ rc_to 0 ▷ put
    (Send Command (Sabme true)) ▷ stop T203 ▷ start T200 ▷ state_to AwaitingEstablishment

-- the data link initiates the establishment itself
unfoldable pub reestablish_data_link : StepState → StepState
reestablish_data_link s = s ▷ layer3_initiated_to false ▷ establish_data_link

-- N(R) ERROR RECOVERY
unfoldable pub nr_error_recovery : StepState → StepState
nr_error_recovery s = s ▷ put (Report letter.J) ▷ reestablish_data_link
