-- The values of a side that the invariant reads, and the frames in transit that a side will
-- process.
use Rattle.std.specs.Prelude.{ℕ, Bool, true, false, List, [], ◌∷◌, Option, Some, None, option_map}
use Rattle.lapd_link_definition.specs.declared.state.State.{State}
use Rattle.lapd_link_definition.specs.declared.state.State.TheVariants.{TeiAssigned, AwaitingEstablishment, AwaitingRelease, MultipleFrameEstablished, TimerRecovery}
use Rattle.lapd_link_definition.specs.End.{End}
use Rattle.lapd_pair_laws.specs.Histories.{History, Receipt}
use Rattle.lapd_pair_laws.specs.Move.{Station}
use Rattle.lapd_pair_laws.specs.Kinds.{Kind, is_acceptance}

-- A side as a sender. `base`: the place of message number 0 of its present establishment; `era`:
-- how many establishments it has had. `first`, `next`: the places of the first waiting and of the
-- first unsent of its messages; `passed`: how many are acknowledged or dropped. `sent_in`: the
-- establishment in which each was last sent; `acked`: which were acknowledged.
pub record Sender : Type 0 where
  pub k : ℕ
  pub base : ℕ
  pub era : ℕ
  pub vs : ℕ
  pub va : ℕ
  pub given : List (List ℕ)
  pub first : ℕ
  pub next : ℕ
  pub passed : ℕ
  pub sent_in : ℕ → Option ℕ
  pub acked : List ℕ

-- a side as a receiver: V(R), the reject condition, and the messages received
pub record Receiver : Type 0 where
  pub vr : ℕ
  pub rejecting : Bool
  pub received : List Receipt

-- a side: its state, whether layer 3 initiated the establishment, whether a release is pending, and
-- its two roles
pub record Party : Type 0 where
  pub state : State
  pub asked : Bool
  pub leaving : Bool
  pub sends : Sender
  pub takes : Receiver

abbrev pub sender_of : ℕ → End → History → Sender
sender_of base e h = record {
  k = e.parameters.k;
  base = base;
  era = e.establishments;
  vs = e.window.vs;
  va = e.window.va;
  given = e.given;
  first = e.first;
  next = e.next;
  passed = h.passed;
  sent_in = h.sent_in;
  acked = h.acked;
}

abbrev pub receiver_of : End → History → Receiver
receiver_of e h = record { vr = e.window.vr; rejecting = e.window.rejecting; received = h.received }

-- the values of an end and its history, if message number 0 of the present establishment is at
-- place `base`
abbrev pub party_of : ℕ → End → History → Party
party_of base e h = record {
  state = e.state;
  asked = e.layer3_initiated;
  leaving = e.release_pending;
  sends = sender_of base e h;
  takes = receiver_of e h;
}

abbrev pub party : ℕ → Station → Party
party base s = party_of base s.end s.history

-- ---- The frames in transit that a side will process.

-- the frames that a side will process with state variables that are known now, and these variables
pub record Reception : Type 0 where
  pub vs : ℕ
  pub va : ℕ
  pub vr : ℕ
  pub rejecting : Bool
  pub frames : List Kind

-- the frames that follow the first UA
abbrev pub behind : Bool → List Kind → Option (List Kind) → Option (List Kind)
behind true ks later = Some ks
behind false ks later = later

abbrev pub behind_acceptance : List Kind → Option (List Kind)
behind_acceptance [] = None
behind_acceptance (k ∷ ks) = behind (is_acceptance k) ks (behind_acceptance ks)

-- in states 7 and 8: all frames, with the present variables
abbrev pub reception_now : Party → List Kind → Reception
reception_now y ks = record {
  vs = y.sends.vs;
  va = y.sends.va;
  vr = y.takes.vr;
  rejecting = y.takes.rejecting;
  frames = ks;
}

-- in an establishment that is about to begin: all variables are 0
abbrev pub next_reception : List Kind → Reception
next_reception ks = record { vs = 0; va = 0; vr = 0; rejecting = false; frames = ks }

-- In states 7 and 8 a side will process all frames in transit to it. In state 5, if no release is
-- pending, it will process those that follow the UA; otherwise none.
abbrev pub received_in : State → Bool → Reception → List Kind → Option Reception
received_in TeiAssigned leaving now ks = None
received_in AwaitingEstablishment true now ks = None
received_in AwaitingEstablishment false now ks = option_map next_reception (behind_acceptance ks)
received_in AwaitingRelease leaving now ks = None
received_in MultipleFrameEstablished leaving now ks = Some now
received_in TimerRecovery leaving now ks = Some now

abbrev pub receives : Party → List Kind → Option Reception
receives y ks = received_in y.state y.leaving (reception_now y ks) ks

-- a fact of the frames that will be processed, if there are any
abbrev pub OnReception : (Reception → Type 0) → Option Reception → Type 0
OnReception P None = Unit {0}
OnReception P (Some h) = P h

-- the frames that will be processed
abbrev pub frames_received : Option Reception → List Kind
frames_received None = []
frames_received (Some h) = h.frames
