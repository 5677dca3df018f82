-- Each action has the same effect on tags as on whole numbers, if the numbers are near each other.
use Rattle.std.proofs.Common.{◌≡◌, ◌<◌, ℕ, ◌+◌, ◌≤◌, Bool, true, false, if◌then◌else◌, Option, Some, option_map, refl, ap, arith}
use Rattle.lapd_field.specs.declared.control.Control.{Control}
use Rattle.lapd_field.specs.declared.control.Control.TheVariants.{Rr, Rnr, Rej}
use Rattle.lapd_mod128.specs.Counting.{Whole, Tagged, tag, after, AreNear}
use Rattle.lapd_mod128.proofs.Tags.{tag_of_after, tag_of_before, equality_on_tags, steps_on_tags, lies_within_on_tags}
use Rattle.lapd_supervision.specs.StateVariables.{StateVariables, initial_variables, without_exceptions, with_zero_counters, status_frame, acknowledgement, without_ack_pending, poll_response, is_accepted, is_rejected, after_i_frame, i_frame_response, is_valid_nr, with_va, acknowledged_count, acknowledges_all, with_vs, outstanding, may_send, next_i_frame, last_i_frame, after_sending, with_own_busy, with_peer_busy}
use Rattle.lapd_supervision.specs.Tags.{tag_variables, tag_control, IsWindow, IsNearWindow}

-- ---- Actions without counting

pub initial_variables_on_tags : tag_variables initial_variables ≡ initial_variables
unfolding tag_variables initial_variables tag
initial_variables_on_tags = refl

pub without_exceptions_on_tags : (m : StateVariables)
    → tag_variables (without_exceptions m) ≡ without_exceptions (tag_variables m)
unfolding tag_variables without_exceptions
without_exceptions_on_tags m = refl

pub with_zero_counters_on_tags : (m : StateVariables)
    → tag_variables (with_zero_counters m) ≡ with_zero_counters (tag_variables m)
unfolding tag_variables with_zero_counters tag
with_zero_counters_on_tags m = refl

pub without_ack_pending_on_tags : (m : StateVariables)
    → tag_variables (without_ack_pending m) ≡ without_ack_pending (tag_variables m)
unfolding tag_variables without_ack_pending
without_ack_pending_on_tags m = refl

pub own_busy_on_tags : (busy : Bool) (m : StateVariables)
    → tag_variables (with_own_busy busy m) ≡ with_own_busy busy (tag_variables m)
unfolding tag_variables with_own_busy
own_busy_on_tags busy m = refl

pub peer_busy_on_tags : (busy : Bool) (m : StateVariables)
    → tag_variables (with_peer_busy busy m) ≡ with_peer_busy busy (tag_variables m)
unfolding tag_variables with_peer_busy
peer_busy_on_tags busy m = refl

-- ---- Frames that are sent

status_of : (busy pf : Bool) (n : ℕ)
    → tag_control (if busy then Rnr n pf else Rr n pf)
    ≡ (if busy then Rnr (tag n) pf else Rr (tag n) pf)
unfolding tag_control
status_of true pf n = refl
status_of false pf n = refl

pub status_frame_on_tags : (pf : Bool) (m : StateVariables)
    → tag_control (status_frame pf m) ≡ status_frame pf (tag_variables m)
unfolding tag_variables status_frame
status_frame_on_tags pf m = status_of m.own_busy pf m.vr

pub acknowledgement_on_tags : (m : StateVariables)
    → tag_control (acknowledgement m) ≡ acknowledgement (tag_variables m)
unfolding tag_variables tag_control acknowledgement
acknowledgement_on_tags m = refl

pub next_i_frame_on_tags : (m : StateVariables)
    → tag_control (next_i_frame m) ≡ next_i_frame (tag_variables m)
unfolding tag_variables tag_control next_i_frame
next_i_frame_on_tags m = refl

pub last_i_frame_on_tags : (m : StateVariables) → 0 < m.vs
    → tag_control (last_i_frame Whole m) ≡ last_i_frame Tagged (tag_variables m)
unfolding tag_variables tag_control last_i_frame
last_i_frame_on_tags m h = rw (tag_of_before m.vs h) refl

pub after_sending_on_tags : (m : StateVariables)
    → tag_variables (after_sending Whole m) ≡ after_sending Tagged (tag_variables m)
unfolding tag_variables after_sending
after_sending_on_tags m = rw (tag_of_after m.vs) refl

pub outstanding_on_tags : (m : StateVariables) → IsWindow m.va m.vs
    → outstanding Tagged (tag_variables m) ≡ outstanding Whole m
unfolding tag_variables
outstanding_on_tags m window = steps_on_tags m.va m.vs window.in_order window.at_most

pub may_send_on_tags : (k : ℕ) (m : StateVariables) → IsWindow m.va m.vs
    → may_send Tagged k (tag_variables m) ≡ may_send Whole k m
unfolding tag_variables may_send
may_send_on_tags k m window = rw (outstanding_on_tags m window) refl

-- ---- Receiving an N(R)

pub within_is_near : (nr va vs : ℕ) → va ≤ nr → nr ≤ vs → vs ≤ va + 127 → IsNearWindow nr va vs
within_is_near nr va vs low high most = record {
  near_va = record { above = omega (arith, low); below = omega (arith, high, most) };
  near_vs = record { above = omega (arith, high); below = omega (arith, low, most) };
}

pub is_valid_nr_on_tags : (nr : ℕ) (m : StateVariables) → IsWindow m.va m.vs
    → IsNearWindow nr m.va m.vs
    → is_valid_nr Tagged (tag nr) (tag_variables m) ≡ is_valid_nr Whole nr m
unfolding tag_variables is_valid_nr
is_valid_nr_on_tags nr m window near =
    lies_within_on_tags m.va nr m.vs window.in_order
    (record { above = omega (arith, window.in_order); below = omega (arith, window.at_most) })
    near.near_va near.near_vs

pub with_va_on_tags : (nr : ℕ) (m : StateVariables)
    → tag_variables (with_va nr m) ≡ with_va (tag nr) (tag_variables m)
unfolding tag_variables with_va
with_va_on_tags nr m = refl

pub acknowledged_count_on_tags : (nr : ℕ) (m : StateVariables) → m.va ≤ nr → nr ≤ m.va + 127
    → acknowledged_count Tagged (tag nr) (tag_variables m) ≡ acknowledged_count Whole nr m
unfolding tag_variables acknowledged_count
acknowledged_count_on_tags nr m low high = steps_on_tags m.va nr low high

pub acknowledges_all_on_tags : (nr : ℕ) (m : StateVariables) → AreNear nr m.vs
    → acknowledges_all (tag nr) (tag_variables m) ≡ acknowledges_all nr m
unfolding tag_variables acknowledges_all
acknowledges_all_on_tags nr m near = equality_on_tags nr m.vs near

pub with_vs_on_tags : (nr : ℕ) (m : StateVariables)
    → tag_variables (with_vs nr m) ≡ with_vs (tag nr) (tag_variables m)
unfolding tag_variables with_vs
with_vs_on_tags nr m = refl

-- ---- Receiving an I frame

pub is_accepted_on_tags : (ns : ℕ) (m : StateVariables) → AreNear ns m.vr
    → is_accepted (tag ns) (tag_variables m) ≡ is_accepted ns m
unfolding tag_variables is_accepted
is_accepted_on_tags ns m near = rw (equality_on_tags ns m.vr near) refl

pub is_rejected_on_tags : (ns : ℕ) (m : StateVariables) → AreNear ns m.vr
    → is_rejected (tag ns) (tag_variables m) ≡ is_rejected ns m
unfolding tag_variables is_rejected
is_rejected_on_tags ns m near = rw (equality_on_tags ns m.vr near) refl

vr_of : (accepted : Bool) (n : ℕ)
    → tag (if accepted then after Whole n else n)
    ≡ (if accepted then after Tagged (tag n) else tag n)
vr_of true n = tag_of_after n
vr_of false n = refl

pub after_i_frame_on_tags : (ns : ℕ) (p : Bool) (m : StateVariables) → AreNear ns m.vr
    → tag_variables (after_i_frame Whole ns p m) ≡ after_i_frame Tagged (tag ns) p (tag_variables m)
unfolding tag_variables after_i_frame
after_i_frame_on_tags ns p m near =
    rw (is_accepted_on_tags ns m near, is_rejected_on_tags ns m near, vr_of (is_accepted ns m) m.vr)
    refl

poll_response_of : (p : Bool) (m : StateVariables)
    → option_map tag_control (poll_response p m) ≡ poll_response p (tag_variables m)
unfolding poll_response
poll_response_of true m = ap (λ (c : Control). Some c) (status_frame_on_tags true m)
poll_response_of false m = refl

answer_of : (rejected p : Bool) (n : ℕ) (other : Option Control)
    → option_map tag_control (if rejected then Some (Rej n p) else other)
    ≡ (if rejected then Some (Rej (tag n) p) else option_map tag_control other)
unfolding tag_control
answer_of true p n other = refl
answer_of false p n other = refl

pub i_frame_response_on_tags : (ns : ℕ) (p : Bool) (m : StateVariables) → AreNear ns m.vr
    → option_map tag_control (i_frame_response Whole ns p m)
    ≡ i_frame_response Tagged (tag ns) p (tag_variables m)
unfolding tag_variables i_frame_response
i_frame_response_on_tags ns p m near =
    rw (
      answer_of (is_rejected ns m) p m.vr (poll_response p (after_i_frame Whole ns p m)),
      poll_response_of p (after_i_frame Whole ns p m),
      after_i_frame_on_tags ns p m near,
      is_rejected_on_tags ns m near,
    ) refl
