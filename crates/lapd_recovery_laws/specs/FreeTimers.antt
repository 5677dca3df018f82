-- Deliveries and expired timers in any order, without losses: T200 is not counted.
use Rattle.std.specs.Prelude.{◌≡◌, ℕ, ◌+◌, ◌*◌, ◌≤◌, ◌&&◌, Bool, List, [], ◌∷◌, length}
use Rattle.lapd_mod128.specs.Counting.{Reading}
use Rattle.lapd_pair_laws.specs.Move.{PairEvent, Move}
use Rattle.lapd_pair_laws.specs.World.{World, happens, world_after, run, left}
use Rattle.lapd_recovery_laws.specs.Agreed.{AreAgreed}
use Rattle.lapd_recovery_laws.specs.Deliveries.{frames}
use Rattle.lapd_recovery_laws.specs.EarlyTimers.{AreLineMoves, is_early}
use Rattle.lapd_recovery_laws.specs.EveryWorld.{most_moves_from}
use Rattle.lapd_recovery_laws.specs.FewLosses.{t200s, is_t203}
use Rattle.lapd_recovery_laws.specs.KeptAgreement.{is_out_of_step, AreInAgreement}
use Rattle.lapd_recovery_laws.specs.Losses.{one_if, losses}
use Rattle.lapd_recovery_laws.specs.Own.{Rests}

-- At most this often T200 expires if T203 expires `idle` times: the first factor bounds the
-- requests, the responses to them, and the states left, and the second how often T200 expires
-- between two of these. The first argument is N200, the greater one of both ends.
abbrev pub most_t200s_from : ℕ → ℕ → World → ℕ
most_t200s_from n200 idle w =
    (3 * left w + 3 * frames w + 4 * idle + 13) * (2 * left w + frames w + n200 + 3)

-- The number of moves that suffices if T203 expires `idle` times: that of own moves, and for each
-- timer as many as bring the line back from any world behind it, and one for each frame that was in
-- transit at the start, since T200 may overtake it.
abbrev pub most_free_moves : ℕ → ℕ → World → ℕ
most_free_moves n200 idle w =
    most_moves_from n200 w
    + (most_t200s_from n200 idle w + idle) * (6 * left w + frames w + 6 * n200 + 24)

-- T203 expires, and this is not an own move
abbrev pub is_early_t203 : PairEvent → World → Bool
is_early_t203 event w = is_t203 event && is_early event w

-- how often it does
abbrev pub early_t203s : Reading → List Move → World → ℕ
early_t203s r [] w = 0
early_t203s r (move ∷ moves) w = one_if (is_early_t203 move.event w)
    + early_t203s r moves (world_after w (happens r move w))

-- and the ends are not in step
abbrev pub is_idle_out_of_step : PairEvent → World → Bool
is_idle_out_of_step event w = is_t203 event && is_out_of_step event w

abbrev pub t203s_out_of_step : Reading → List Move → World → ℕ
t203s_out_of_step r [] w = 0
t203s_out_of_step r (move ∷ moves) w = one_if (is_idle_out_of_step move.event w)
    + t203s_out_of_step r moves (world_after w (happens r move w))

-- From this world deliveries and expired timers, in any order, are few if T203 expires early
-- seldom; T200 does not expire often. After the number of moves that suffices, or more, the ends
-- agree. Early T203s are not counted while they are in step. When no own move is possible any more,
-- they agree.
pub record ComesBackFreely (r : Reading) (n200 : ℕ) (w : World) : Type 0 where
  pub few_t200s : (moves : List Move) → AreLineMoves r moves w → losses moves ≡ 0
      → t200s moves ≤ most_t200s_from n200 (early_t203s r moves w + 1) w
  pub few : (moves : List Move) → AreLineMoves r moves w → losses moves ≡ 0
      → length moves ≤ most_free_moves n200 (early_t203s r moves w + 1) w
  pub reached : (moves : List Move) → AreLineMoves r moves w → losses moves ≡ 0
      → most_free_moves n200 (t203s_out_of_step r moves w + 2) w ≤ length moves
      → AreInAgreement (run r moves w)
  pub agreed : (moves : List Move) → AreLineMoves r moves w → Rests r (run r moves w)
      → AreAgreed (run r moves w)
