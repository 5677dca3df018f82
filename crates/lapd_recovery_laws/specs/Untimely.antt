-- Worlds that try early timers.
use Rattle.std.specs.Prelude.{ℕ, true, List, [], ◌∷◌, ◌++◌, length}
use Rattle.lapd_mod128.specs.Counting.{Reading}
use Rattle.lapd_pair_laws.specs.Move.{Move, Give, Deliver, Lose, Expire200, Expire203}
use Rattle.lapd_pair_laws.specs.Schedule.{of_user, of_network, establishing}
use Rattle.lapd_pair_laws.specs.World.{World, run}
use Rattle.lapd_recovery_laws.specs.EarlyTimers.{earlies, overtaken, most_line_moves}
use Rattle.lapd_recovery_laws.specs.FewLosses.{most_open_line_moves}
use Rattle.lapd_recovery_laws.specs.Losses.{losses}
use Rattle.lapd_recovery_laws.specs.Recovered.{RecoveryOutcome, looked_at, repeated, too_many_t203}

-- how many frames these moves lose, how many timers expire early, and how many messages T200
-- overtakes
pub record Untimely : Type 0 where
  pub lost : ℕ
  pub early : ℕ
  pub late : ℕ

abbrev pub untimely : Reading → List Move → World → Untimely
untimely r moves w = record {
  lost = losses moves;
  early = earlies r moves w;
  late = overtaken r moves w;
}

-- the bound counts them
abbrev pub outcome_of_line : Reading → List Move → World → RecoveryOutcome
outcome_of_line r moves w =
    looked_at r (length moves)
    (most_line_moves (losses moves) (earlies r moves w) (overtaken r moves w) 1 w)
    (run r moves w)

-- as `too_many_t203`, within the bound that counts each early T203
abbrev pub t203_counted : RecoveryOutcome
t203_counted = record too_many_t203 { few = true }

-- a message is in transit
abbrev pub message_sent : List Move
message_sent = establishing ++ of_user (Give (1 ∷ [])) ∷ []

-- T200 expires beside the message, the poll is lost, and T200 expires again. The user establishes
-- anew while the message is still in transit.
abbrev pub t200_overtakes : List Move
t200_overtakes = of_user Expire200 ∷ of_network (Lose 1) ∷ of_user Expire200
    ∷ of_network Deliver ∷ of_network Deliver ∷ of_user Deliver ∷ of_user Deliver ∷ []

-- ---- Both ends in states 7 and 8.

-- the bound is that of few losses, and T203 expires this often
abbrev pub outcome_of_open : Reading → ℕ → List Move → World → RecoveryOutcome
outcome_of_open r idle moves w =
    looked_at r (length moves) (most_open_line_moves (losses moves) idle w) (run r moves w)

-- eight messages are submitted, and the first is in transit
abbrev pub eight_given : List Move
eight_given = establishing ++ repeated 8 (of_user (Give (1 ∷ [])) ∷ [])

-- T200 of the user expires beside each message in transit
abbrev pub t200_beside_each : List Move
t200_beside_each = repeated 8 (of_user Expire200 ∷ of_network Deliver ∷ of_network Deliver
    ∷ of_user Deliver ∷ of_user Deliver ∷ [])

-- T203 of the user expires seven times, and each poll is answered
abbrev pub seven_idle_polls : List Move
seven_idle_polls = repeated 7 (of_user Expire203 ∷ of_network Deliver ∷ of_user Deliver ∷ [])
