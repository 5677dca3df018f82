-- Runs that may be repeated for ever: without a premise the moves have no bound.
use Rattle.std.specs.Prelude.{◌≡◌, ℕ, ◌+◌, Bool, true, false, List, [], ◌∷◌, ◌++◌, length}
use Rattle.lapd_mod128.specs.Counting.{Reading}
use Rattle.lapd_link_definition.specs.declared.state.State.{State}
use Rattle.lapd_link_definition.specs.declared.state.State.TheVariants.{AwaitingEstablishment, MultipleFrameEstablished}
use Rattle.lapd_link_definition.specs.End.{End, unsent, waiting}
use Rattle.lapd_pair_laws.specs.Move.{Move, Give, Deliver, Lose, Expire200, Expire203}
use Rattle.lapd_pair_laws.specs.Schedule.{of_user, of_network, establishing}
use Rattle.lapd_pair_laws.specs.Worked.{busy}
use Rattle.lapd_pair_laws.specs.World.{World, run}
use Rattle.lapd_recovery_laws.specs.Deliveries.{frames}
use Rattle.lapd_recovery_laws.specs.EarlyTimers.{AreLineMoves}
use Rattle.lapd_recovery_laws.specs.EveryWorld.{IsFreeWorld}
use Rattle.lapd_recovery_laws.specs.FewLosses.{t200s}
use Rattle.lapd_recovery_laws.specs.FreeTimers.{early_t203s, t203s_out_of_step, most_t200s_from, most_free_moves}
use Rattle.lapd_recovery_laws.specs.InTime.{TimedMove, moves_of, Waits, ArePunctual, most_time}
use Rattle.lapd_recovery_laws.specs.Losses.{losses}
use Rattle.lapd_recovery_laws.specs.Recovered.{RecoveryOutcome, looked_at, all_admitted, network_sabme_lost}

-- what the next steps of an end depend on, but for the octets of its messages
pub record Shown : Type 0 where
  pub state : State
  pub rc : ℕ
  pub t200 : Bool
  pub vs : ℕ
  pub va : ℕ
  pub vr : ℕ
  pub peer_busy : Bool
  pub own_busy : Bool
  pub left : ℕ
  pub not_sent : ℕ

abbrev pub shown : End → Shown
shown e = record {
  state = e.state;
  rc = e.rc;
  t200 = e.t200;
  vs = e.window.vs;
  va = e.window.va;
  vr = e.window.vr;
  peer_busy = e.window.peer_busy;
  own_busy = e.window.own_busy;
  left = waiting e;
  not_sent = unsent e;
}

-- an end in state 7 with nothing to do
abbrev pub idle_end : Shown
idle_end = record {
  state = MultipleFrameEstablished;
  rc = 0;
  t200 = false;
  vs = 0;
  va = 0;
  vr = 0;
  peer_busy = false;
  own_busy = false;
  left = 0;
  not_sent = 0;
}

-- no frame is in transit, and the ends show this
pub record Shows (user network : Shown) (w : World) : Type 0 where
  pub user_shows : shown w.user.end ≡ user
  pub network_shows : shown w.network.end ≡ network
  pub quiet : frames w ≡ 0

-- These moves are admitted, this many frames are lost, and this many T203s are early. Before and
-- after, the ends show the same.
pub record IsRound (r : Reading) (lost early : ℕ) (user network : Shown) (moves : List Move)
    (w : World) : Type 0 where
  pub admitted : all_admitted r moves w ≡ true
  pub lost_are : losses moves ≡ lost
  pub early_are : early_t203s r moves w ≡ early
  pub before : Shows user network w
  pub after : Shows user network (run r moves w)

-- T200 of the user expires, it polls, and its message is sent again and lost
abbrev pub message_lost_again : List Move
message_lost_again = of_user Expire200 ∷ of_network Deliver ∷ of_user Deliver
    ∷ of_network (Lose 0) ∷ []

abbrev pub losses_go_on : List Move
losses_go_on = establishing ++ of_user (Give (1 ∷ [])) ∷ of_network (Lose 0) ∷ message_lost_again

abbrev pub one_sent : Shown
one_sent = record idle_end { rc = 1; t200 = true; vs = 1; left = 1 }

-- T203 of the user expires before T200 of the network, which is in state 5: the user polls twice in
-- vain, and establishes anew
abbrev pub t203_again : List Move
t203_again = of_user Expire203 ∷ of_network Deliver ∷ of_user Expire200
    ∷ of_network Deliver ∷ of_user Expire200 ∷ of_network Deliver ∷ of_user Deliver ∷ []

abbrev pub t203s_go_on : List Move
t203s_go_on = network_sabme_lost ++ t203_again

abbrev pub in_state_5 : Shown
in_state_5 = record idle_end { state = AwaitingEstablishment; t200 = true }

-- the network is own receiver busy, and answers each poll by an RNR
abbrev pub polled_again : List Move
polled_again = of_user Expire200 ∷ of_network Deliver ∷ of_user Deliver ∷ []

abbrev pub busy_goes_on : List Move
busy_goes_on = busy ++ polled_again

abbrev pub one_waits : Shown
one_waits = record idle_end { rc = 1; t200 = true; peer_busy = true; left = 1; not_sent = 1 }

-- ---- Within the bounds.

-- how often T200 expires, at most how often it may, how many T203s are early, and the outcome
-- within the bound of the moves
pub record FreeOutcome : Type 0 where
  pub made : ℕ
  pub most : ℕ
  pub early : ℕ
  pub outcome : RecoveryOutcome

-- N200 is one
abbrev pub outcome_of_free : Reading → List Move → World → FreeOutcome
outcome_of_free r moves w = record {
  made = t200s moves;
  most = most_t200s_from 1 (early_t203s r moves w + 1) w;
  early = early_t203s r moves w;
  outcome =
      looked_at r (length moves) (most_free_moves 1 (early_t203s r moves w + 1) w)
      (run r moves w);
}

-- The SABME of the user is lost. T200 expires 1,000 ms later, and each frame takes 20 ms.
abbrev pub establishes_late : List TimedMove
establishes_late = record { move = of_user Expire200; at = 1000 }
    ∷ record { move = of_network Deliver; at = 1020 }
    ∷ record { move = of_user Deliver; at = 1040 } ∷ []

abbrev pub standard_waits : Waits
standard_waits = record { frame = 20; t200 = 1000; t203 = 10000 }

-- the premises of a time of recovery are met, and this time suffices
pub record MeetsTime (r : Reading) (now time : ℕ) (timed : List TimedMove) (w : World) : Type 0
  where
    pub free : IsFreeWorld 1 w
    pub line_moves : AreLineMoves r (moves_of timed) w
    pub lossless : losses (moves_of timed) ≡ 0
    pub punctual : ArePunctual r standard_waits 0 timed now w
    pub suffices : most_time standard_waits 1 (t203s_out_of_step r (moves_of timed) w) w ≡ time
