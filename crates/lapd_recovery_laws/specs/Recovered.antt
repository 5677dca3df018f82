-- Worked worlds that try the line's own moves. N200 is three.
use Rattle.std.specs.Prelude.{ℕ, zero, suc, nat_le, Bool, true, false, List, [], ◌∷◌, ◌++◌, ◌&&◌, length, is_none, is_ok}
use Rattle.lapd_mod128.specs.Counting.{Reading}
use Rattle.lapd_link_definition.specs.declared.state.State.{State}
use Rattle.lapd_link_definition.specs.declared.state.State.TheVariants.{TeiAssigned, AwaitingEstablishment, MultipleFrameEstablished, TimerRecovery}
use Rattle.lapd_link_definition.specs.declared.recovery.Recovery.TheVariants.{Enquiry}
use Rattle.lapd_link_definition.specs.Parameters.{Parameters}
use Rattle.lapd_pair_laws.specs.Move.{Move, Give, Establish, Release, Deliver, Lose, Restart, Expire200, Expire203}
use Rattle.lapd_pair_laws.specs.Schedule.{of_user, of_network, establishing}
use Rattle.lapd_pair_laws.specs.Worked.{sabme_lost}
use Rattle.lapd_pair_laws.specs.World.{World, new_world, world_after, happens, run, left}
use Rattle.lapd_recovery_laws.specs.Deliveries.{most_deliveries}
use Rattle.lapd_recovery_laws.specs.EveryWorld.{most_moves_from}
use Rattle.lapd_recovery_laws.specs.FewLosses.{most_open_moves}
use Rattle.lapd_recovery_laws.specs.Losses.{losses, most_moves_despite}
use Rattle.lapd_recovery_laws.specs.Own.{IsFree, first_own, then_on, recovering, tried}

-- The result of the own moves. `moves`: how many were made; `few`: whether they are at most
-- `most_moves_from`; `rest`: whether no own move is possible; `left`: how many messages are left;
-- `received`: how many the network received; `dropped`: how many of the user's are dropped; then
-- both states.
pub record RecoveryOutcome : Type 0 where
  pub moves : ℕ
  pub few : Bool
  pub rest : Bool
  pub left : ℕ
  pub received : ℕ
  pub dropped : ℕ
  pub user : State
  pub network : State

abbrev pub looked_at : Reading → ℕ → ℕ → World → RecoveryOutcome
looked_at r moves most w = record {
  moves = moves;
  few = nat_le moves most;
  rest = is_none (first_own r tried w);
  left = left w;
  received = length w.network.history.received;
  dropped = length w.user.history.dropped;
  user = w.user.end.state;
  network = w.network.end.state;
}

abbrev pub after_moves : Reading → List Move → World → RecoveryOutcome
after_moves r moves w = looked_at r (length moves) (most_moves_from 3 w) (run r moves w)

-- at most 40 moves are made
abbrev pub outcome_of : Reading → World → RecoveryOutcome
outcome_of r w = after_moves r (recovering r 40 w) w

abbrev pub outcome : ℕ → ℕ → ℕ → State → RecoveryOutcome
outcome moves received dropped state = record {
  moves = moves;
  few = true;
  rest = true;
  left = 0;
  received = received;
  dropped = dropped;
  user = state;
  network = state;
}

abbrev pub both_in_7 : ℕ → ℕ → ℕ → RecoveryOutcome
both_in_7 moves received dropped = outcome moves received dropped MultipleFrameEstablished

abbrev pub both_in_4 : ℕ → RecoveryOutcome
both_in_4 moves = outcome moves 0 0 TeiAssigned

-- ---- The history before.

-- both ends establish, and both SABMEs are lost
abbrev pub both_sabmes_lost : List Move
both_sabmes_lost = of_user Establish ∷ of_network Establish ∷ of_network (Lose 0)
    ∷ of_user (Lose 0) ∷ []

-- the network restarts
abbrev pub network_restarts : List Move
network_restarts = establishing ++ of_network Restart ∷ []

-- the network restarts while a message is in transit to it
abbrev pub restarts_with_one_sent : List Move
restarts_with_one_sent = establishing ++ of_user (Give (1 ∷ [])) ∷ of_network Restart ∷ []

-- T200 of the user expires three times; the frame before and each frame that it sends is lost
abbrev pub all_lost : List Move
all_lost = of_network (Lose 0) ∷ of_user Expire200 ∷ of_network (Lose 0) ∷ of_user Expire200
    ∷ of_network (Lose 0) ∷ of_user Expire200 ∷ of_network (Lose 0) ∷ []

-- the SABME of the user is lost, and then its layer 3 releases the link
abbrev pub release_waits : List Move
release_waits = sabme_lost ++ of_user Release ∷ []

-- each of its SABMEs is lost
abbrev pub sabmes_lost : List Move
sabmes_lost = of_user Establish ∷ all_lost

-- the user releases, and its DISC is lost
abbrev pub disc_lost : List Move
disc_lost = establishing ++ of_user Release ∷ of_network (Lose 0) ∷ []

-- the user releases, and each of its DISC is lost
abbrev pub release_unheard : List Move
release_unheard = establishing ++ of_user Release ∷ all_lost

-- the DISC of the user and the SABME of the network cross
abbrev pub disc_meets_sabme : List Move
disc_meets_sabme = establishing ++ of_user Release ∷ of_network Establish ∷ []

-- then each end refuses the other's request: the user is in state 4, and its DM is in transit
abbrev pub dm_sent : List Move
dm_sent = disc_meets_sabme ++ of_network Deliver ∷ of_user Deliver ∷ of_user Deliver ∷ []

-- The user polls, the answer is lost, and a message waits. The network establishes, and each of its
-- SABMEs is lost.
abbrev pub longest : List Move
longest = establishing ++ of_user Expire203 ∷ of_network Deliver ∷ of_user (Lose 0)
    ∷ of_user (Give (1 ∷ [])) ∷ of_network Establish ∷ of_user (Lose 0) ∷ of_network Expire200
    ∷ of_user (Lose 0) ∷ of_network Expire200 ∷ of_user (Lose 0) ∷ of_network Expire200
    ∷ of_user (Lose 0) ∷ []

-- ---- Frames in transit at the start.

-- the deliveries to the network first, and else to the user, at most n
abbrev pub delivering : Reading → ℕ → World → List Move
delivering r zero w = []
delivering r (suc n) w = then_on
    (first_own r (of_network Deliver ∷ of_user Deliver ∷ []) w)
    (λ move. delivering r n (world_after w (happens r move w)))

abbrev pub after_deliveries : Reading → List Move → World → RecoveryOutcome
after_deliveries r moves w = looked_at r (length moves) (most_deliveries w) (run r moves w)

abbrev pub outcome_of_deliveries : Reading → World → RecoveryOutcome
outcome_of_deliveries r w = after_deliveries r (delivering r 40 w) w

-- three messages are in transit, and the first is lost
abbrev pub first_of_three_lost : List Move
first_of_three_lost = establishing ++ of_user (Give (1 ∷ [])) ∷ of_user (Give (2 ∷ []))
    ∷ of_user (Give (3 ∷ [])) ∷ of_network (Lose 0) ∷ []

-- a poll of the user meets a SABME of the network, and a message waits
abbrev pub poll_meets_sabme : List Move
poll_meets_sabme = establishing ++ of_user Expire203 ∷ of_user (Give (1 ∷ []))
    ∷ of_network Establish ∷ []

-- ---- Frames that are lost meanwhile.

-- a message is lost
abbrev pub message_lost : List Move
message_lost = establishing ++ of_user (Give (1 ∷ [])) ∷ of_network (Lose 0) ∷ []

-- T200 of the user expires three times, and each poll is lost; then the user establishes anew
abbrev pub three_polls_lost : List Move
three_polls_lost = of_user Expire200 ∷ of_network (Lose 0) ∷ of_user Expire200
    ∷ of_network (Lose 0) ∷ of_user Expire200 ∷ of_network (Lose 0) ∷ of_user Expire200
    ∷ of_network Deliver ∷ of_user Deliver ∷ []

-- only two polls are lost: the third one is answered, and the message is sent again and received
abbrev pub two_polls_lost : List Move
two_polls_lost = of_user Expire200 ∷ of_network (Lose 0) ∷ of_user Expire200
    ∷ of_network (Lose 0) ∷ of_user Expire200 ∷ of_network Deliver ∷ of_user Deliver
    ∷ of_network Deliver ∷ of_user Deliver ∷ []

-- the bound is that of a few losses
abbrev pub outcome_of_few : Reading → List Move → World → RecoveryOutcome
outcome_of_few r moves w =
    looked_at r (length moves) (most_open_moves (losses moves) w) (run r moves w)

abbrev pub outcome_despite : Reading → List Move → World → RecoveryOutcome
outcome_despite r moves w =
    looked_at r (length moves) (most_moves_despite (losses moves) 3 w) (run r moves w)

-- ---- A busy end.

-- the user polls again and again, the network answers that it is busy, and the bound is passed
abbrev pub held_up : RecoveryOutcome
held_up = record {
  moves = 40;
  few = false;
  rest = false;
  left = 1;
  received = 0;
  dropped = 0;
  user = TimerRecovery;
  network = MultipleFrameEstablished;
}

-- one end of the world is not free
abbrev pub IsBusy : World → Type 0
IsBusy w = IsFree w.user.end → IsFree w.network.end → ⊥

-- ---- T203 in state 7 at both ends.

-- these moves, n times
abbrev pub repeated : ℕ → List Move → List Move
repeated zero moves = []
repeated (suc n) moves = moves ++ repeated n moves

-- T203 expires at both ends, and the polls cross
abbrev pub polls_cross : List Move
polls_cross = of_user Expire203 ∷ of_network Expire203 ∷ of_network Deliver ∷ of_user Deliver
    ∷ of_user Deliver ∷ of_network Deliver ∷ []

-- the own moves, and then T203 of the user eight times, each poll answered
abbrev pub polled_on : Reading → World → List Move
polled_on r w = recovering r 40 w
    ++ repeated 8 (of_user Expire203 ∷ of_network Deliver ∷ of_user Deliver ∷ [])

-- more moves than the bound, and no own move is possible
abbrev pub agreed_after : ℕ → RecoveryOutcome
agreed_after moves = record (both_in_7 moves 0 0) { few = false }

-- ---- Timers that do not wait, with N200 = 1 and a window of one.

abbrev pub least_pair : World
least_pair =
    let p : Parameters = record { k = 1; n200 = 1; room = 8; recovery = Enquiry } in
    new_world p p

abbrev pub all_admitted : Reading → List Move → World → Bool
all_admitted r [] w = true
all_admitted r (move ∷ moves) w = is_ok (happens r move w)
    && all_admitted r moves (world_after w (happens r move w))

abbrev pub outcome_of_least : Reading → List Move → World → RecoveryOutcome
outcome_of_least r moves w = looked_at r (length moves) (most_moves_from 1 w) (run r moves w)

-- The UA of the user is lost while it polls. Eight messages wait, and no frame is in transit.
abbrev pub eight_wait : List Move
eight_wait = of_network Establish ∷ of_user Deliver ∷ of_user Expire203
    ∷ repeated 8 (of_user (Give (1 ∷ [])) ∷ [])
    ++ of_network (Lose 0) ∷ of_network Deliver ∷ []

-- T200 of the user expires beside each message in transit.
abbrev pub t200_beside_frames : List Move
t200_beside_frames = of_user Expire200 ∷ of_network Deliver ∷ of_user Expire200
    ∷ of_network Expire200 ∷ of_network Deliver ∷ of_user Deliver ∷ of_network Deliver
    ∷ of_user Deliver
    ∷ repeated 8 (of_network Deliver ∷ of_user Expire200 ∷ of_network Deliver
    ∷ of_user Deliver ∷ of_user Deliver ∷ [])

-- 48 moves, where the bound is 45
abbrev pub too_many_t200 : RecoveryOutcome
too_many_t200 = record (both_in_7 48 8 0) { few = false }

-- the network establishes, and its SABME is lost
abbrev pub network_sabme_lost : List Move
network_sabme_lost = establishing ++ of_network Establish ∷ of_user (Lose 0) ∷ []

-- T203 of the user always expires before T200 of the network. The user polls twice in vain and
-- establishes anew, again and again.
abbrev pub t203_before_t200 : List Move
t203_before_t200 = repeated 4 (of_user Expire203 ∷ of_network Deliver ∷ of_user Expire200
    ∷ of_network Deliver ∷ of_user Expire200 ∷ of_network Deliver ∷ of_user Deliver ∷ [])

-- 28 moves, where the bound is 21, and the network is still in state 5
abbrev pub too_many_t203 : RecoveryOutcome
too_many_t203 = record (both_in_7 28 0 0) {
  few = false;
  rest = false;
  network = AwaitingEstablishment;
}
