-- A worked schedule of moves, and unsafe histories, which try the definitions.
use Rattle.std.specs.Prelude.{ℕ, ◌==◌, if◌then◌else◌, List, [], ◌∷◌, ◌++◌, Option, Some, None}
use Rattle.lapd_frame.specs.declared.Side.TheVariants as side
use Rattle.lapd_link_definition.specs.declared.recovery.Recovery.TheVariants.{Enquiry}
use Rattle.lapd_link_definition.specs.declared.state.State.{State}
use Rattle.lapd_link_definition.specs.declared.state.State.TheVariants.{TeiAssigned, MultipleFrameEstablished, TimerRecovery}
use Rattle.lapd_link_definition.specs.Parameters.{Parameters}
use Rattle.lapd_pair_laws.specs.Histories.{Receipt}
use Rattle.lapd_pair_laws.specs.Move.{PairEvent, Move, Station, Give, Establish, Deliver, Lose, Expire200, Restart}
use Rattle.lapd_pair_laws.specs.World.{World, new_world}

abbrev pub of_user : PairEvent → Move
of_user event = record { side = side.User; event = event }

abbrev pub of_network : PairEvent → Move
of_network event = record { side = side.Network; event = event }

-- a window of 2, N200 = 3, and room for four messages, on both sides
abbrev pub parameters : Parameters
parameters = record { k = 2; n200 = 3; room = 4; recovery = Enquiry }

abbrev pub start : World
start = new_world parameters parameters

-- the user establishes the link, and the network answers
abbrev pub establishing : List Move
establishing = of_user Establish ∷ of_network Deliver ∷ of_user Deliver ∷ []

-- the user submits a message, which is lost, and T200 expires
abbrev pub losing : List Move
losing = of_user (Give (8 ∷ 1 ∷ [])) ∷ of_network (Lose 0) ∷ of_user Expire200 ∷ []

-- the enquiry is answered; the message is retransmitted, received and acknowledged
abbrev pub recovering : List Move
recovering = of_network Deliver ∷ of_user Deliver ∷ of_network Deliver ∷ of_user Deliver ∷ []

-- the network submits a message, which is received and acknowledged
abbrev pub answering : List Move
answering = of_network (Give (5 ∷ [])) ∷ of_user Deliver ∷ of_network Deliver ∷ []

-- a second message of the user is lost, and the user establishes again, so that it is dropped
abbrev pub establishing_again : List Move
establishing_again = of_user (Give (8 ∷ 2 ∷ [])) ∷ of_network (Lose 0) ∷ establishing

-- a third is received and acknowledged
abbrev pub giving : List Move
giving = of_user (Give (8 ∷ 3 ∷ [])) ∷ of_network Deliver ∷ of_user Deliver ∷ []

abbrev pub schedule : List Move
schedule = establishing ++ losing ++ recovering ++ answering ++ establishing_again ++ giving

-- the values of a side that the laws compare
pub record Figures : Type 0 where
  pub state : State
  pub vs : ℕ
  pub va : ℕ
  pub vr : ℕ
  pub received : List Receipt
  pub acked : List ℕ
  pub dropped : List ℕ
  pub begun : List ℕ
  pub sent_in : List (Option ℕ)

abbrev pub figures : Station → Figures
figures s = record {
  state = s.end.state;
  vs = s.end.window.vs;
  va = s.end.window.va;
  vr = s.end.window.vr;
  received = s.history.received;
  acked = s.history.acked;
  dropped = s.history.dropped;
  begun = s.history.begun;
  sent_in = s.history.sent_in 0 ∷ s.history.sent_in 1 ∷ s.history.sent_in 2 ∷ s.history.sent_in 3
      ∷ [];
}

abbrev pub receipt : ℕ → ℕ → List ℕ → Receipt
receipt place establishment octets = record {
  octets = octets;
  establishment = establishment;
  place = place;
}

abbrev pub one_message : List (List ℕ)
one_message = (1 ∷ []) ∷ []

abbrev pub two_messages : List (List ℕ)
two_messages = (1 ∷ []) ∷ (2 ∷ []) ∷ []

abbrev pub three_messages : List (List ℕ)
three_messages = (1 ∷ []) ∷ (2 ∷ []) ∷ (3 ∷ []) ∷ []

-- all messages but the one at this place were sent in the sender's first establishment
abbrev pub in_first_but : ℕ → ℕ → Option ℕ
in_first_but unsent place = if place == unsent then None else Some 1

-- all messages were sent in the sender's first establishment
abbrev pub in_first : ℕ → Option ℕ
in_first place = Some 1

-- ---- Results of the schedule.

-- while the enquiry is in transit
abbrev pub user_in_recovery : Figures
user_in_recovery = record {
  state = TimerRecovery;
  vs = 1;
  va = 0;
  vr = 0;
  received = [];
  acked = [];
  dropped = [];
  begun = 0 ∷ [];
  sent_in = Some 1 ∷ None ∷ None ∷ None ∷ [];
}

-- at the end
abbrev pub user_at_end : Figures
user_at_end = record {
  state = MultipleFrameEstablished;
  vs = 1;
  va = 1;
  vr = 0;
  received = receipt 0 1 (5 ∷ []) ∷ [];
  acked = 0 ∷ 2 ∷ [];
  dropped = 1 ∷ [];
  begun = 0 ∷ 1 ∷ [];
  sent_in = Some 1 ∷ Some 1 ∷ Some 2 ∷ None ∷ [];
}

abbrev pub network_at_end : Figures
network_at_end = record {
  state = MultipleFrameEstablished;
  vs = 0;
  va = 0;
  vr = 1;
  received = receipt 0 1 (8 ∷ 1 ∷ []) ∷ receipt 2 2 (8 ∷ 3 ∷ []) ∷ [];
  acked = 0 ∷ [];
  dropped = [];
  begun = 0 ∷ 1 ∷ [];
  sent_in = Some 1 ∷ None ∷ None ∷ None ∷ [];
}

-- the user restarts while its message is in transit
abbrev pub restarting : List Move
restarting = establishing ++ of_user (Give (8 ∷ 1 ∷ [])) ∷ of_user Restart ∷ []

abbrev pub user_restarted : Figures
user_restarted = record {
  state = TeiAssigned;
  vs = 0;
  va = 0;
  vr = 0;
  received = [];
  acked = [];
  dropped = 0 ∷ [];
  begun = 0 ∷ [];
  sent_in = Some 1 ∷ None ∷ None ∷ None ∷ [];
}
