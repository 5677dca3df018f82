-- Deliveries and expired timers at moments in milliseconds, without losses.
use Rattle.std.specs.Prelude.{◌≡◌, ◌⊎◌, ℕ, ◌+◌, ◌*◌, ◌<◌, ◌≤◌, ◌||◌, if◌then◌else◌, List, [], ◌∷◌, map}
use Rattle.lapd_mod128.specs.Counting.{Reading}
use Rattle.lapd_pair_laws.specs.Move.{Move}
use Rattle.lapd_pair_laws.specs.World.{World, happens, world_after, run}
use Rattle.lapd_recovery_laws.specs.EarlyTimers.{AreLineMoves}
use Rattle.lapd_recovery_laws.specs.FreeTimers.{most_t200s_from, most_free_moves, t203s_out_of_step}
use Rattle.lapd_recovery_laws.specs.KeptAgreement.{AreInAgreement}
use Rattle.lapd_recovery_laws.specs.Losses.{losses}
use Rattle.lapd_recovery_laws.specs.Own.{is_line_empty, Rests}

-- a move, and its moment in milliseconds
pub record TimedMove : Type 0 where
  pub move : Move
  pub at : ℕ

abbrev pub moves_of : List TimedMove → List Move
moves_of timed = map (λ (t : TimedMove). t.move) timed

-- How long a frame is in transit at most, how long after its start T200 expires at the latest, and
-- T203, in milliseconds.
pub record Waits : Type 0 where
  pub frame : ℕ
  pub t200 : ℕ
  pub t203 : ℕ

-- The next move follows within this time: a frame in transit was sent, and a timer that runs was
-- started, at the last move or before.
abbrev pub longest_wait : Waits → World → ℕ
longest_wait t w =
    if is_line_empty w then (if w.user.end.t200 || w.network.end.t200 then t.t200 else t.t203)
    else t.frame

-- Each move follows the one before in time, the first the moment `latest`, and no time has passed
-- since the last by `now`, unless no own move is possible.
abbrev pub ArePunctual : Reading → Waits → ℕ → List TimedMove → ℕ → World → Type 0
ArePunctual r t latest [] now w = (now ≤ latest + longest_wait t w) ⊎ Rests r w
ArePunctual r t latest (move ∷ moves) now w =
    ((move.at ≤ latest + longest_wait t w) ⊎ Rests r w)
    × ArePunctual r t move.at moves now (world_after w (happens r move.move w))

-- The time that suffices if T203 expires early `idle` times while the ends are not in step: a frame
-- for each move, T200 for each timer, and T203 for each T203. The second argument is N200, the
-- greater one of both ends.
abbrev pub most_time : Waits → ℕ → ℕ → World → ℕ
most_time t n200 idle w =
    (most_free_moves n200 (idle + 1) w + 1) * t.frame
    + (most_t200s_from n200 (idle + 1) w + idle + 2) * t.t200
    + (idle + 2) * t.t203

-- from this world, at the moment `start`, the ends agree after that time
abbrev pub ComesBackInTime : Reading → ℕ → World → Type 0
ComesBackInTime r n200 w = (t : Waits) (start now : ℕ) (timed : List TimedMove)
    → AreLineMoves r (moves_of timed) w → losses (moves_of timed) ≡ 0
    → ArePunctual r t start timed now w
    → start + most_time t n200 (t203s_out_of_step r (moves_of timed) w) w < now
    → AreInAgreement (run r (moves_of timed) w)
