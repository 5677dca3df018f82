-- The counters of each action are tags if they were tags before.
use Rattle.std.proofs.Common.{ℕ, ◌<◌, Bool, true, false, if◌then◌else◌, arith}
use Rattle.lapd_mod128.specs.Counting.{Tagged, after}
use Rattle.lapd_mod128.proofs.Steps.{after_is_number}
use Rattle.lapd_supervision.specs.StateVariables.{StateVariables, AreTags, initial_variables, without_exceptions, with_zero_counters, without_ack_pending, is_accepted, after_i_frame, with_va, with_vs, after_sending, with_own_busy, with_peer_busy}

pub initial_are_tags : AreTags initial_variables
unfolding initial_variables
initial_are_tags = (omega arith, omega arith, omega arith)

pub without_exceptions_are_tags : (m : StateVariables) → AreTags m → AreTags (without_exceptions m)
unfolding without_exceptions
without_exceptions_are_tags m tags = tags

pub with_zero_counters_are_tags : (m : StateVariables) → AreTags (with_zero_counters m)
unfolding with_zero_counters
with_zero_counters_are_tags m = (omega arith, omega arith, omega arith)

pub without_ack_pending_are_tags : (m : StateVariables) → AreTags m
    → AreTags (without_ack_pending m)
unfolding without_ack_pending
without_ack_pending_are_tags m tags = tags

vr_is_tag : (accepted : Bool) (n : ℕ) → n < 128 → (if accepted then after Tagged n else n) < 128
vr_is_tag true n tag = after_is_number Tagged n tag
vr_is_tag false n tag = tag

pub after_i_frame_are_tags : (ns : ℕ) (p : Bool) (m : StateVariables) → AreTags m
    → AreTags (after_i_frame Tagged ns p m)
unfolding after_i_frame
after_i_frame_are_tags ns p m tags = (tags.0, tags.1, vr_is_tag (is_accepted ns m) m.vr tags.2)

pub with_va_are_tags : (nr : ℕ) (m : StateVariables) → nr < 128 → AreTags m → AreTags (with_va nr m)
unfolding with_va
with_va_are_tags nr m tag tags = (tags.0, tag, tags.2)

pub with_vs_are_tags : (nr : ℕ) (m : StateVariables) → nr < 128 → AreTags m → AreTags (with_vs nr m)
unfolding with_vs
with_vs_are_tags nr m tag tags = (tag, tags.1, tags.2)

pub after_sending_are_tags : (m : StateVariables) → AreTags m → AreTags (after_sending Tagged m)
unfolding after_sending
after_sending_are_tags m tags = (after_is_number Tagged m.vs tags.0, tags.1, tags.2)

pub own_busy_are_tags : (busy : Bool) (m : StateVariables) → AreTags m
    → AreTags (with_own_busy busy m)
unfolding with_own_busy
own_busy_are_tags busy m tags = tags

pub peer_busy_are_tags : (busy : Bool) (m : StateVariables) → AreTags m
    → AreTags (with_peer_busy busy m)
unfolding with_peer_busy
peer_busy_are_tags busy m tags = tags
