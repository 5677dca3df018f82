-- The cases of an I frame, by the conditions of this end and its N(S).
use Rattle.std.proofs.Common.{◌≡◌, ◌≢◌, ℕ, Bool, true, false, not, ◌&&◌, ◌==◌, if◌then◌else◌, Some, None, refl, ap, ◌∙◌, arith}
use Rattle.std.proofs.lemmas.Bool.Decides.{nat_tests}
use Rattle.lapd_field.specs.declared.control.Control.TheVariants.{Rr, Rnr, Rej}
use Rattle.lapd_mod128.specs.Counting.{Reading, after}
use Rattle.lapd_supervision.specs.StateVariables.{StateVariables, status_frame, is_accepted, is_rejected, poll_response, after_i_frame, i_frame_response, Receives}

is_next : (a b : ℕ) → a ≡ b → (a == b) ≡ true
is_next a b same = grind (arith, nat_tests)

is_no_next : (a b : ℕ) → a ≢ b → (a == b) ≡ false
is_no_next a b other = grind (arith, nat_tests)

-- ---- Whether it is accepted, and whether it is rejected.

busy_is_not_accepted : (ns : ℕ) (m : StateVariables) → m.own_busy ≡ true → is_accepted ns m ≡ false
unfolding is_accepted
busy_is_not_accepted ns m busy = rw busy refl

busy_is_not_rejected : (ns : ℕ) (m : StateVariables) → m.own_busy ≡ true → is_rejected ns m ≡ false
unfolding is_rejected
busy_is_not_rejected ns m busy = rw busy refl

next_is_accepted : (ns : ℕ) (m : StateVariables) → m.own_busy ≡ false → ns ≡ m.vr
    → is_accepted ns m ≡ true
unfolding is_accepted
next_is_accepted ns m free same = rw (free, is_next ns m.vr same) refl

next_is_not_rejected : (ns : ℕ) (m : StateVariables) → m.own_busy ≡ false → ns ≡ m.vr
    → is_rejected ns m ≡ false
unfolding is_rejected
next_is_not_rejected ns m free same = rw (free, is_next ns m.vr same) refl

other_is_not_accepted : (ns : ℕ) (m : StateVariables) → m.own_busy ≡ false → ns ≢ m.vr
    → is_accepted ns m ≡ false
unfolding is_accepted
other_is_not_accepted ns m free other = rw (free, is_no_next ns m.vr other) refl

other_is_rejected_once : (ns : ℕ) (m : StateVariables) → m.own_busy ≡ false → ns ≢ m.vr
    → is_rejected ns m ≡ not m.rejecting
unfolding is_rejected
other_is_rejected_once ns m free other = rw (free, is_no_next ns m.vr other) refl

-- ---- The result, from that.

-- neither: discarded, and a poll is answered
discarded : (r : Reading) (ns : ℕ) (p : Bool) (m : StateVariables) → is_accepted ns m ≡ false
    → is_rejected ns m ≡ false →
    Receives r ns p m (record m { ack_pending = not p && m.ack_pending }) false (poll_response p m)
unfolding after_i_frame i_frame_response poll_response status_frame
discarded r ns p m accepted rejected = record {
  variables = rw (accepted, rejected) refl;
  taken = accepted;
  answered = rw (accepted, rejected) refl;
}

-- own busy: discarded, and a poll is answered
pub received_while_busy : (r : Reading) (ns : ℕ) (p : Bool) (m : StateVariables) → m.own_busy ≡ true
    →
    Receives r ns p m (record m { ack_pending = not p && m.ack_pending }) false (poll_response p m)
received_while_busy r ns p m busy =
    discarded r ns p m (busy_is_not_accepted ns m busy) (busy_is_not_rejected ns m busy)

-- the next one: accepted, and a poll is answered, or an acknowledgement is left pending
pub received_in_sequence : (r : Reading) (ns : ℕ) (p : Bool) (m : StateVariables)
    → m.own_busy ≡ false → ns ≡ m.vr →
    Receives r ns p m (record m { vr = after r m.vr; rejecting = false; ack_pending = not p }) true
    (if p then Some (Rr (after r m.vr) true) else None)
unfolding after_i_frame i_frame_response poll_response status_frame
received_in_sequence r ns p m free same =
    let accepted = next_is_accepted ns m free same in
    let rejected = next_is_not_rejected ns m free same in record {
      variables = rw accepted refl;
      taken = accepted;
      answered = rw (rejected, accepted, free) refl;
    }

-- the first out of sequence: discarded, and answered by REJ with F equal to its P
pub received_out_of_sequence : (r : Reading) (ns : ℕ) (p : Bool) (m : StateVariables)
    → m.own_busy ≡ false → ns ≢ m.vr → m.rejecting ≡ false →
    Receives r ns p m (record m { rejecting = true; ack_pending = false }) false (Some (Rej m.vr p))
unfolding after_i_frame i_frame_response
received_out_of_sequence r ns p m free other fresh =
    let accepted = other_is_not_accepted ns m free other in
    let rejected = other_is_rejected_once ns m free other ∙ ap not fresh in record {
      variables = rw (accepted, rejected) refl;
      taken = accepted;
      answered = rw rejected refl;
    }

-- the frames that follow: discarded, and a poll is answered
pub received_while_rejecting : (r : Reading) (ns : ℕ) (p : Bool) (m : StateVariables)
    → m.own_busy ≡ false → ns ≢ m.vr → m.rejecting ≡ true →
    Receives r ns p m (record m { ack_pending = not p && m.ack_pending }) false (poll_response p m)
received_while_rejecting r ns p m free other rejecting =
    discarded r ns p m (other_is_not_accepted ns m free other)
    (other_is_rejected_once ns m free other ∙ ap not rejecting)

-- ---- The status

pub status_while_busy : (pf : Bool) (m : StateVariables) → m.own_busy ≡ true
    → status_frame pf m ≡ Rnr m.vr pf
unfolding status_frame
status_while_busy pf m busy = rw busy refl

pub status_while_free : (pf : Bool) (m : StateVariables) → m.own_busy ≡ false
    → status_frame pf m ≡ Rr m.vr pf
unfolding status_frame
status_while_free pf m free = rw free refl
