-- The world in which a quiet line ends.
use Rattle.std.specs.Prelude.{◌≡◌, ℕ, ◌<◌, ◌≤◌, true, false, None, length}
use Rattle.lapd_mod128.specs.Counting.{Reading}
use Rattle.lapd_pair_laws.specs.Consistent.{is_one_of}
use Rattle.lapd_pair_laws.specs.Move.{Station}
use Rattle.lapd_pair_laws.specs.Safe.{AreSafe}
use Rattle.lapd_pair_laws.specs.World.{World, run, left}
use Rattle.lapd_pair_laws.specs.Settle.{next_move, settling, bound, most_moves}

-- A side before and after. No message was dropped, and each message that was not dropped before is
-- acknowledged.
pub record IsServed (before after : Station) : Type 0 where
  pub dropped : after.history.dropped ≡ before.history.dropped
  pub acknowledged : (place : ℕ) → place < length after.end.given
      → is_one_of before.history.dropped place ≡ false → is_one_of after.history.acked place ≡ true

-- No further move is possible, no message is left, both sides are served, and all that is
-- acknowledged was received.
pub record IsDrainedTo (r : Reading) (before after : World) : Type 0 where
  pub rests : next_move r after ≡ None
  pub empty : left after ≡ 0
  pub user : IsServed before.user after.user
  pub network : IsServed before.network after.network
  pub safe : AreSafe after

-- The settling moves drain the line, and they are few.
pub record IsDrained (r : Reading) (w : World) : Type 0 where
  pub few : length (settling r (bound w) w) ≤ most_moves w
  pub drained : IsDrainedTo r w (run r (settling r (bound w) w) w)
