-- Worked worlds that try the settling moves.
use Rattle.std.specs.Prelude.{ℕ, Bool, true, false, List, [], ◌∷◌, ◌++◌, length, is_none}
use Rattle.lapd_mod128.specs.Counting.{Reading}
use Rattle.lapd_link_definition.specs.declared.recovery.Recovery.{Recovery}
use Rattle.lapd_link_definition.specs.declared.state.State.{State}
use Rattle.lapd_link_definition.specs.declared.state.State.TheVariants.{TeiAssigned, MultipleFrameEstablished, TimerRecovery}
use Rattle.lapd_link_definition.specs.Parameters.{Parameters}
use Rattle.lapd_pair_laws.specs.Move.{Move, Give, Establish, Deliver, Lose, Busy}
use Rattle.lapd_pair_laws.specs.Schedule.{of_user, of_network, establishing}
use Rattle.lapd_pair_laws.specs.World.{World, new_world, run, left}
use Rattle.lapd_pair_laws.specs.Settle.{next_move, settling, bound}

-- The result of settling. `moves`: how many were made; `rest`: whether no move is possible; `left`:
-- how many messages are left; `received`: how many the network received; `acked`: how many of the
-- user's are acknowledged; then both states.
pub record SettleOutcome : Type 0 where
  pub moves : ℕ
  pub rest : Bool
  pub left : ℕ
  pub received : ℕ
  pub acked : ℕ
  pub user : State
  pub network : State

abbrev pub looked_at : Reading → ℕ → World → SettleOutcome
looked_at r moves w = record {
  moves = moves;
  rest = is_none (next_move r w);
  left = left w;
  received = length w.network.history.received;
  acked = length w.user.history.acked;
  user = w.user.end.state;
  network = w.network.end.state;
}

abbrev pub after_moves : Reading → List Move → World → SettleOutcome
after_moves r moves w = looked_at r (length moves) (run r moves w)

abbrev pub outcome_of : Reading → World → SettleOutcome
outcome_of r w = after_moves r (settling r (bound w) w) w

-- both ends have the same parameters, with this window
abbrev pub with_window : ℕ → Recovery → Parameters
with_window k recovery = record { k = k; n200 = 3; room = 4; recovery = recovery }

abbrev pub new_pair : ℕ → Recovery → World
new_pair k recovery = new_world (with_window k recovery) (with_window k recovery)

-- the SABME is lost
abbrev pub sabme_lost : List Move
sabme_lost = of_user Establish ∷ of_network (Lose 0) ∷ []

-- three messages are lost
abbrev pub three_lost : List Move
three_lost = establishing
    ++ of_user (Give (1 ∷ [])) ∷ of_user (Give (2 ∷ [])) ∷ of_user (Give (3 ∷ []))
    ∷ of_network (Lose 0) ∷ of_network (Lose 0) ∷ of_network (Lose 0) ∷ []

-- the network is busy, and the user knows it
abbrev pub busy : List Move
busy = establishing ++ of_network (Busy true) ∷ of_user Deliver ∷ of_user (Give (8 ∷ 1 ∷ [])) ∷ []

abbrev pub nothing_to_do : SettleOutcome
nothing_to_do = record {
  moves = 0;
  rest = true;
  left = 0;
  received = 0;
  acked = 0;
  user = TeiAssigned;
  network = TeiAssigned;
}

abbrev pub established : SettleOutcome
established = record {
  moves = 3;
  rest = true;
  left = 0;
  received = 0;
  acked = 0;
  user = MultipleFrameEstablished;
  network = MultipleFrameEstablished;
}

abbrev pub recovered : SettleOutcome
recovered = record {
  moves = 9;
  rest = true;
  left = 0;
  received = 3;
  acked = 3;
  user = MultipleFrameEstablished;
  network = MultipleFrameEstablished;
}

-- the user polls again and again, the network answers that it is busy, and the bound is reached
abbrev pub held_up : SettleOutcome
held_up = record {
  moves = 40;
  rest = false;
  left = 1;
  received = 0;
  acked = 0;
  user = TimerRecovery;
  network = MultipleFrameEstablished;
}
