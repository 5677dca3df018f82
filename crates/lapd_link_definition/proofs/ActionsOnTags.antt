-- Each action has the same effect on tags as on whole numbers.
use Rattle.std.proofs.Common.{◌≡◌, ◌<◌, ℕ, ◌+◌, ◌-◌, ◌≤◌, ◌==◌, nat_lt, Bool, true, false, if◌then◌else◌, List, [], ◌∷◌, ◌++◌, map, Option, Some, None, option_map, refl}
use Rattle.std.proofs.lemmas.List.{map-append}
use Rattle.lapd_timers.specs.declared.timer.Timer.{Timer}
use Rattle.lapd_timers.specs.declared.timer.Timer.TheVariants.{T200, T201, T202, T203}
use Rattle.lapd_frame.specs.declared.Role.TheVariants.{Command, Answer}
use Rattle.lapd_frame.specs.declared.Control.{Control}
use Rattle.lapd_mod128.specs.Counting.{Whole, Tagged, tag, AreNear}
use Rattle.lapd_mod128.proofs.Tags.{equality_on_tags}
use Rattle.lapd_supervision.specs.StateVariables.{status_frame, acknowledgement, is_accepted, i_frame_response, acknowledged_count, next_i_frame, last_i_frame, with_own_busy}
use Rattle.lapd_supervision.specs.Tags.{tag_variables, tag_control}
use Rattle.lapd_supervision.proofs.Tagging.{without_exceptions_on_tags, with_zero_counters_on_tags, without_ack_pending_on_tags, own_busy_on_tags, peer_busy_on_tags, status_frame_on_tags, acknowledgement_on_tags, next_i_frame_on_tags, last_i_frame_on_tags, after_sending_on_tags, with_va_on_tags, acknowledged_count_on_tags, with_vs_on_tags, is_accepted_on_tags, after_i_frame_on_tags, i_frame_response_on_tags}
use Rattle.lapd_link_definition.specs.declared.state.State.{State}
use Rattle.lapd_link_definition.specs.declared.out.Out.{Out}
use Rattle.lapd_link_definition.specs.declared.out.Out.TheVariants.{Send, SendMessage, Up, Established, Acknowledged, Dropped, Start, Stop}
use Rattle.lapd_link_definition.specs.End.{End, StepState, waiting, runs, with_timer}
use Rattle.lapd_link_definition.specs.Procedures.{out_where, counted, response_of, put, state_to, rc_to, increment_rc, layer3_initiated_to, release_pending_to, start, stop, expired, clear_exception_conditions, zero_state_variables, set_peer_busy, set_own_busy, enquiry_response, transmit_enquiry, transmit_rr, queue_up, discard_i_queue, acknowledge, invoke_retransmission, discard_unacknowledged, i_frame_ns, transmit_i_frame, retransmit_last_i_frame, ensure_t200, establish_data_link, reestablish_data_link, nr_error_recovery}
use Rattle.lapd_link_definition.specs.Tagging.{tag_out, tag_end, tag_step_state}

-- ---- Outputs.

pub out_where_on_tags : (on : Bool) (out : Out)
    → map tag_out (out_where on out) ≡ out_where on (tag_out out)
out_where_on_tags true out = refl
out_where_on_tags false out = refl

response_on_tags : (response : Option Control)
    → map tag_out (response_of response) ≡ response_of (option_map tag_control response)
response_on_tags None = refl
response_on_tags (Some control) = refl

pub put_on_tags : (out : Out) (s : StepState)
    → tag_step_state (put out s) ≡ put (tag_out out) (tag_step_state s)
unfolding tag_step_state put
put_on_tags out s = rw (map-append tag_out s.outs (out ∷ [])) refl

-- ---- Actions that set one value, and timers.

pub state_to_on_tags : (state : State) (s : StepState)
    → tag_step_state (state_to state s) ≡ state_to state (tag_step_state s)
unfolding tag_step_state state_to
state_to_on_tags state s = refl

pub rc_to_on_tags : (n : ℕ) (s : StepState)
    → tag_step_state (rc_to n s) ≡ rc_to n (tag_step_state s)
unfolding tag_step_state rc_to
rc_to_on_tags n s = refl

pub increment_rc_on_tags : (s : StepState)
    → tag_step_state (increment_rc s) ≡ increment_rc (tag_step_state s)
unfolding tag_step_state increment_rc
increment_rc_on_tags s = refl

pub layer3_initiated_to_on_tags : (on : Bool) (s : StepState)
    → tag_step_state (layer3_initiated_to on s) ≡ layer3_initiated_to on (tag_step_state s)
unfolding tag_step_state layer3_initiated_to
layer3_initiated_to_on_tags on s = refl

pub release_pending_to_on_tags : (on : Bool) (s : StepState)
    → tag_step_state (release_pending_to on s) ≡ release_pending_to on (tag_step_state s)
unfolding tag_step_state release_pending_to
release_pending_to_on_tags on s = refl

with_timer_on_tags : (timer : Timer) (on : Bool) (e : End)
    → tag_end (with_timer timer on e) ≡ with_timer timer on (tag_end e)
with_timer_on_tags T200 on e = refl
with_timer_on_tags T201 on e = refl
with_timer_on_tags T202 on e = refl
with_timer_on_tags T203 on e = refl

pub runs_on_tags : (timer : Timer) (e : End) → runs timer (tag_end e) ≡ runs timer e
runs_on_tags T200 e = refl
runs_on_tags T201 e = refl
runs_on_tags T202 e = refl
runs_on_tags T203 e = refl

pub start_on_tags : (timer : Timer) (s : StepState)
    → tag_step_state (start timer s) ≡ start timer (tag_step_state s)
unfolding tag_step_state start
start_on_tags timer s =
    rw (map-append tag_out s.outs (Start timer ∷ []), with_timer_on_tags timer true s.end) refl

pub stop_on_tags : (timer : Timer) (s : StepState)
    → tag_step_state (stop timer s) ≡ stop timer (tag_step_state s)
unfolding tag_step_state stop
stop_on_tags timer s =
    rw (
      map-append tag_out s.outs (out_where (runs timer s.end) (Stop timer)),
      out_where_on_tags (runs timer s.end) (Stop timer),
      with_timer_on_tags timer false s.end,
      runs_on_tags timer s.end,
    ) refl

pub expired_on_tags : (timer : Timer) (s : StepState)
    → tag_step_state (expired timer s) ≡ expired timer (tag_step_state s)
unfolding tag_step_state expired
expired_on_tags timer s = rw (with_timer_on_tags timer false s.end) refl

-- ---- State variables and conditions.

pub clear_exception_conditions_on_tags : (s : StepState)
    → tag_step_state (clear_exception_conditions s) ≡ clear_exception_conditions (tag_step_state s)
unfolding tag_step_state clear_exception_conditions
clear_exception_conditions_on_tags s = rw (without_exceptions_on_tags s.end.window) refl

pub zero_state_variables_on_tags : (s : StepState)
    → tag_step_state (zero_state_variables s) ≡ zero_state_variables (tag_step_state s)
unfolding tag_step_state zero_state_variables
zero_state_variables_on_tags s = rw (with_zero_counters_on_tags s.end.window) refl

pub set_peer_busy_on_tags : (on : Bool) (s : StepState)
    → tag_step_state (set_peer_busy on s) ≡ set_peer_busy on (tag_step_state s)
unfolding tag_step_state set_peer_busy
set_peer_busy_on_tags on s = rw (peer_busy_on_tags on s.end.window) refl

pub set_own_busy_on_tags : (on : Bool) (s : StepState)
    → tag_step_state (set_own_busy on s) ≡ set_own_busy on (tag_step_state s)
unfolding tag_step_state set_own_busy
set_own_busy_on_tags on s =
    rw (
      map-append tag_out s.outs
          (Send Answer (status_frame false (with_own_busy on s.end.window)) ∷ []),
      status_frame_on_tags false (with_own_busy on s.end.window),
      own_busy_on_tags on s.end.window,
    ) refl

pub enquiry_response_on_tags : (s : StepState)
    → tag_step_state (enquiry_response s) ≡ enquiry_response (tag_step_state s)
unfolding tag_step_state enquiry_response
enquiry_response_on_tags s =
    rw (
      map-append tag_out s.outs (Send Answer (status_frame true s.end.window) ∷ []),
      status_frame_on_tags true s.end.window,
      without_ack_pending_on_tags s.end.window,
    ) refl

pub transmit_enquiry_on_tags : (s : StepState)
    → tag_step_state (transmit_enquiry s) ≡ transmit_enquiry (tag_step_state s)
unfolding tag_step_state transmit_enquiry
transmit_enquiry_on_tags s =
    rw (
      map-append tag_out s.outs (Send Command (status_frame true s.end.window) ∷ Start T200 ∷ []),
      status_frame_on_tags true s.end.window,
      without_ack_pending_on_tags s.end.window,
    ) refl

pub transmit_rr_on_tags : (s : StepState)
    → tag_step_state (transmit_rr s) ≡ transmit_rr (tag_step_state s)
unfolding tag_step_state transmit_rr
transmit_rr_on_tags s =
    rw (
      map-append tag_out s.outs (Send Answer (acknowledgement s.end.window) ∷ []),
      acknowledgement_on_tags s.end.window,
      without_ack_pending_on_tags s.end.window,
    ) refl

-- ---- The I queue.

pub queue_up_on_tags : (message : List ℕ) (s : StepState)
    → tag_step_state (queue_up message s) ≡ queue_up message (tag_step_state s)
unfolding tag_step_state queue_up
queue_up_on_tags message s = refl

pub discard_i_queue_on_tags : (s : StepState)
    → tag_step_state (discard_i_queue s) ≡ discard_i_queue (tag_step_state s)
unfolding tag_step_state discard_i_queue
discard_i_queue_on_tags s =
    rw (
      map-append tag_out s.outs (counted (waiting s.end) Dropped),
      out_where_on_tags (nat_lt 0 (waiting s.end)) (Dropped (waiting s.end)),
    ) refl

-- an N(R) from V(A) to at most 127 above it
pub acknowledge_on_tags : (nr : ℕ) (s : StepState) → s.end.window.va ≤ nr
    → nr ≤ s.end.window.va + 127
    → tag_step_state (acknowledge Whole nr s) ≡ acknowledge Tagged (tag nr) (tag_step_state s)
unfolding tag_step_state acknowledge
acknowledge_on_tags nr s low high =
    rw (
      map-append tag_out s.outs (counted (acknowledged_count Whole nr s.end.window) Acknowledged),
      out_where_on_tags (nat_lt 0 (acknowledged_count Whole nr s.end.window))
          (Acknowledged (acknowledged_count Whole nr s.end.window)),
      with_va_on_tags nr s.end.window,
      acknowledged_count_on_tags nr s.end.window low high,
    ) refl

pub invoke_retransmission_on_tags : (nr : ℕ) (s : StepState)
    → tag_step_state (invoke_retransmission nr s)
    ≡ invoke_retransmission (tag nr) (tag_step_state s)
unfolding tag_step_state invoke_retransmission
invoke_retransmission_on_tags nr s = rw (with_vs_on_tags nr s.end.window) refl

-- the primitives for layer 3 if messages are lost
lost_on_tags : (same : Bool) (n : ℕ)
    → map tag_out (if same then [] else counted n Dropped ++ Established ∷ [])
    ≡ (if same then [] else counted n Dropped ++ Established ∷ [])
lost_on_tags true n = refl
lost_on_tags false n =
    rw (
      map-append tag_out (counted n Dropped) (Established ∷ []),
      out_where_on_tags (nat_lt 0 n) (Dropped n),
    ) refl

pub discard_unacknowledged_on_tags : (s : StepState) → AreNear s.end.window.vs s.end.window.va
    → tag_step_state (discard_unacknowledged s) ≡ discard_unacknowledged (tag_step_state s)
unfolding tag_step_state discard_unacknowledged tag_variables
discard_unacknowledged_on_tags s near =
    rw (
      map-append tag_out s.outs (if s.end.window.vs == s.end.window.va then []
          else counted (waiting s.end) Dropped ++ Established ∷ []),
      lost_on_tags (s.end.window.vs == s.end.window.va) (waiting s.end),
      equality_on_tags s.end.window.vs s.end.window.va near,
    ) refl

-- an N(S) within 127 of V(R)
pub i_frame_ns_on_tags : (ns : ℕ) (p : Bool) (s : StepState) → AreNear ns s.end.window.vr
    → tag_step_state (i_frame_ns Whole ns p s) ≡ i_frame_ns Tagged (tag ns) p (tag_step_state s)
unfolding tag_step_state i_frame_ns
i_frame_ns_on_tags ns p s near =
    rw (
      map-append tag_out (s.outs ++ out_where (is_accepted ns s.end.window) Up)
          (response_of (i_frame_response Whole ns p s.end.window)),
      map-append tag_out s.outs (out_where (is_accepted ns s.end.window) Up),
      out_where_on_tags (is_accepted ns s.end.window) Up,
      response_on_tags (i_frame_response Whole ns p s.end.window),
      after_i_frame_on_tags ns p s.end.window near,
      i_frame_response_on_tags ns p s.end.window near,
      is_accepted_on_tags ns s.end.window near,
    ) refl

pub transmit_i_frame_on_tags : (s : StepState)
    → tag_step_state (transmit_i_frame Whole s) ≡ transmit_i_frame Tagged (tag_step_state s)
unfolding tag_step_state transmit_i_frame
transmit_i_frame_on_tags s =
    rw (
      map-append tag_out s.outs
          (SendMessage (s.end.next - s.end.first) (next_i_frame s.end.window) ∷ []),
      next_i_frame_on_tags s.end.window,
      after_sending_on_tags s.end.window,
    ) refl

pub retransmit_last_i_frame_on_tags : (s : StepState) → 0 < s.end.window.vs
    → tag_step_state (retransmit_last_i_frame Whole s)
    ≡ retransmit_last_i_frame Tagged (tag_step_state s)
unfolding tag_step_state retransmit_last_i_frame
retransmit_last_i_frame_on_tags s h =
    rw (
      map-append tag_out s.outs (SendMessage (s.end.next - 1 - s.end.first)
          (last_i_frame Whole s.end.window) ∷ Start T200 ∷ []),
      last_i_frame_on_tags s.end.window h,
      without_ack_pending_on_tags s.end.window,
    ) refl

stopped_on_tags : (on : Bool) (out : List Out) → map tag_out out ≡ out
    → map tag_out (if on then [] else out) ≡ (if on then [] else out)
stopped_on_tags true out same = refl
stopped_on_tags false out same = same

pub ensure_t200_on_tags : (s : StepState)
    → tag_step_state (ensure_t200 s) ≡ ensure_t200 (tag_step_state s)
unfolding tag_step_state ensure_t200
ensure_t200_on_tags s =
    rw (
      map-append tag_out (s.outs ++ (if s.end.t200 then [] else out_where s.end.t203 (Stop T203)))
          (if s.end.t200 then [] else Start T200 ∷ []),
      map-append tag_out s.outs (if s.end.t200 then [] else out_where s.end.t203 (Stop T203)),
      stopped_on_tags s.end.t200 (out_where s.end.t203 (Stop T203))
          (out_where_on_tags s.end.t203 (Stop T203)),
      stopped_on_tags s.end.t200 (Start T200 ∷ []) refl,
    ) refl

-- ---- Procedures made of these actions.

pub ruleset actions = (
  put_on_tags,
  state_to_on_tags,
  rc_to_on_tags,
  increment_rc_on_tags,
  layer3_initiated_to_on_tags,
  release_pending_to_on_tags,
  start_on_tags,
  stop_on_tags,
  expired_on_tags,
  clear_exception_conditions_on_tags,
  zero_state_variables_on_tags,
  set_peer_busy_on_tags,
  set_own_busy_on_tags,
  enquiry_response_on_tags,
  transmit_enquiry_on_tags,
  transmit_rr_on_tags,
  queue_up_on_tags,
  discard_i_queue_on_tags,
  invoke_retransmission_on_tags,
  transmit_i_frame_on_tags,
  ensure_t200_on_tags,
)

pub establish_data_link_on_tags : (s : StepState)
    → tag_step_state (establish_data_link s) ≡ establish_data_link (tag_step_state s)
unfolding establish_data_link tag_control
establish_data_link_on_tags s = simp actions

pub reestablish_data_link_on_tags : (s : StepState)
    → tag_step_state (reestablish_data_link s) ≡ reestablish_data_link (tag_step_state s)
unfolding reestablish_data_link
reestablish_data_link_on_tags s = simp (actions, establish_data_link_on_tags)

pub nr_error_recovery_on_tags : (s : StepState)
    → tag_step_state (nr_error_recovery s) ≡ nr_error_recovery (tag_step_state s)
unfolding nr_error_recovery
nr_error_recovery_on_tags s = simp (actions, reestablish_data_link_on_tags)

pub ruleset procedures =
    (actions, establish_data_link_on_tags, reestablish_data_link_on_tags, nr_error_recovery_on_tags)
