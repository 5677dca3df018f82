-- The actions of multiple frame operation on counters and conditions alone (Q.921 5.5.1, 5.6, 5.8,
-- Annex B). An action changes only the fields that it names. If it counts or compares a number, it
-- has the reading as an argument: numbers without a bound, or tags from 0 to 127.
use Rattle.std.specs.Prelude.{◌≡◌, ℕ, ◌<◌, ◌==◌, nat_lt, Bool, true, false, not, ◌&&◌, ◌||◌, if◌then◌else◌, Option, Some, None}
use Rattle.lapd_field.specs.declared.control.Control.{Control}
use Rattle.lapd_field.specs.declared.control.Control.TheVariants.{I, Rr, Rnr, Rej}
use Rattle.lapd_mod128.specs.Counting.{Reading, after, before, steps, lies_within}

-- the state variables V(S), V(A), V(R) (Q.921 3.5.2), the busy conditions of the peer and of this
-- end (5.6.5, 5.6.6), the reject condition (5.8.1), and whether an acknowledgement is to be sent
-- (5.6.2.2)
pub record StateVariables : Type 0 where
  pub vs : ℕ
  pub va : ℕ
  pub vr : ℕ
  pub peer_busy : Bool
  pub own_busy : Bool
  pub rejecting : Bool
  pub ack_pending : Bool

-- all counters are tags
abbrev pub AreTags : StateVariables → Type 0
AreTags m = (m.vs < 128) × (m.va < 128) × (m.vr < 128)

-- all 0, and no condition
unfoldable pub initial_variables : StateVariables
initial_variables = record {
  vs = 0;
  va = 0;
  vr = 0;
  peer_busy = false;
  own_busy = false;
  rejecting = false;
  ack_pending = false;
}

-- no exception condition, and no acknowledgement pending (Q.921 5.5.1.2: existing exception
-- conditions are cleared)
unfoldable pub without_exceptions : StateVariables → StateVariables
without_exceptions m = record m {
  peer_busy = false;
  own_busy = false;
  rejecting = false;
  ack_pending = false;
}

-- numbering begins anew (Q.921 5.5.1.2: V(S), V(R) and V(A) are set to 0)
unfoldable pub with_zero_counters : StateVariables → StateVariables
with_zero_counters m = record m { vs = 0; va = 0; vr = 0 }

-- ---- Supervisory frames: N(R) is always V(R) (Q.921 3.5.2.6).

-- RR, or RNR in an own receiver busy condition, with this P or F: the answer to a poll, and the
-- enquiry (Q.921 5.6.2.1, 5.6.6, Annex B: transmit enquiry)
unfoldable pub status_frame : Bool → StateVariables → Control
status_frame pf m = if m.own_busy then Rnr m.vr pf else Rr m.vr pf

-- the RR that acknowledges if no I frame does (Q.921 5.6.2.2)
unfoldable pub acknowledgement : StateVariables → Control
acknowledgement m = Rr m.vr false

-- a frame with N(R) was sent, so no acknowledgement is pending (Annex B: clear acknowledge pending)
unfoldable pub without_ack_pending : StateVariables → StateVariables
without_ack_pending m = record m { ack_pending = false }

-- a poll is answered by the status
unfoldable pub poll_response : Bool → StateVariables → Option Control
poll_response p m = if p then Some (status_frame true m) else None

-- ---- Receiving an I frame, by its N(S) and P (Q.921 5.6.2, 5.6.6, 5.8.1).

-- it is accepted if it is the next one and this end is not busy
unfoldable pub is_accepted : ℕ → StateVariables → Bool
is_accepted ns m = not m.own_busy && (ns == m.vr)

-- a REJ is sent for the first frame out of sequence: not the next one, this end not busy and not
-- yet rejecting
unfoldable pub is_rejected : ℕ → StateVariables → Bool
is_rejected ns m = not m.own_busy && not (ns == m.vr) && not m.rejecting

-- An accepted frame increments V(R) and ends the reject condition; a rejected frame begins it.
-- After an accepted frame without a poll an acknowledgement is pending. The answer to a poll and a
-- REJ acknowledge.
unfoldable pub after_i_frame : Reading → ℕ → Bool → StateVariables → StateVariables
after_i_frame r ns p m = record m {
  vr = if is_accepted ns m then after r m.vr else m.vr;
  rejecting = if is_accepted ns m then false else (is_rejected ns m || m.rejecting);
  ack_pending = if is_accepted ns m then not p else (not (is_rejected ns m || p) && m.ack_pending);
}

-- the answer: the REJ, with F equal to its P, else the answer to a poll, after the frame
unfoldable pub i_frame_response : Reading → ℕ → Bool → StateVariables → Option Control
i_frame_response r ns p m = if is_rejected ns m then Some (Rej m.vr p)
    else poll_response p (after_i_frame r ns p m)

-- the variables after an I frame, whether it is accepted, and the answer
pub record Receives (r : Reading) (ns : ℕ) (p : Bool) (m afterwards : StateVariables)
    (accepted : Bool) (answer : Option Control) : Type 0 where
  pub variables : after_i_frame r ns p m ≡ afterwards
  pub taken : is_accepted ns m ≡ accepted
  pub answered : i_frame_response r ns p m ≡ answer

-- ---- Receiving an N(R) (Q.921 3.5.2.3, 5.6.3.2, 5.8.2).

-- it is valid if it lies from V(A) to V(S)
unfoldable pub is_valid_nr : Reading → ℕ → StateVariables → Bool
is_valid_nr r nr m = lies_within r m.va nr m.vs

-- V(A) is set to this N(R)
unfoldable pub with_va : ℕ → StateVariables → StateVariables
with_va nr m = record m { va = nr }

-- how many I frames it acknowledges
unfoldable pub acknowledged_count : Reading → ℕ → StateVariables → ℕ
acknowledged_count r nr m = steps r m.va nr

-- whether it acknowledges all sent I frames
unfoldable pub acknowledges_all : ℕ → StateVariables → Bool
acknowledges_all nr m = nr == m.vs

-- V(S) is set back to it, so the I frames from it on are retransmitted (Q.921 5.6.4, 5.8.3)
unfoldable pub with_vs : ℕ → StateVariables → StateVariables
with_vs nr m = record m { vs = nr }

-- ---- Sending an I frame (Q.921 5.6.1).

-- how many I frames are outstanding (Q.921 5.9.5)
abbrev pub outstanding : Reading → StateVariables → ℕ
outstanding r m = steps r m.va m.vs

-- the peer is not busy, and fewer than k I frames are outstanding
unfoldable pub may_send : Reading → ℕ → StateVariables → Bool
may_send r k m = not m.peer_busy && nat_lt (outstanding r m) k

-- the next I frame: N(S) is V(S), N(R) is V(R), P is 0
unfoldable pub next_i_frame : StateVariables → Control
next_i_frame m = I m.vs m.vr false

-- V(S) is incremented; the frame also acknowledges
unfoldable pub after_sending : Reading → StateVariables → StateVariables
after_sending r m = record m { vs = after r m.vs; ack_pending = false }

-- the last I frame again, with P=1 (Q.921 5.6.7 b): N(S) is V(S) - 1, N(R) is V(R)
unfoldable pub last_i_frame : Reading → StateVariables → Control
last_i_frame r m = I (before r m.vs) m.vr true

-- ---- Busy conditions begin and end.

-- this end's (Q.921 5.6.6); `status_frame false` then reports it to the peer, and also acknowledges
unfoldable pub with_own_busy : Bool → StateVariables → StateVariables
with_own_busy busy m = record m { own_busy = busy; ack_pending = false }

-- the peer's (Q.921 5.6.5)
unfoldable pub with_peer_busy : Bool → StateVariables → StateVariables
with_peer_busy busy m = record m { peer_busy = busy }
