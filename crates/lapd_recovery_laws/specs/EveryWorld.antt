-- Any world that a run leads to, with frames in transit or not.
use Rattle.std.specs.Prelude.{ℕ, ◌+◌, ◌*◌, ◌≤◌, List, length}
use Rattle.lapd_mod128.specs.Counting.{Reading}
use Rattle.lapd_pair_laws.specs.Move.{Move}
use Rattle.lapd_pair_laws.specs.World.{World, run, left}
use Rattle.lapd_recovery_laws.specs.Agreed.{AreAgreed}
use Rattle.lapd_recovery_laws.specs.Deliveries.{frames}
use Rattle.lapd_recovery_laws.specs.Own.{AreOwn, Rests, IsFree}

-- No end in state 7 or 8 is own receiver busy, and each end retransmits at most n200 times.
pub record IsFreeWorld (n200 : ℕ) (w : World) : Type 0 where
  pub user_free : IsFree w.user.end
  pub network_free : IsFree w.network.end
  pub user_retries : w.user.end.parameters.n200 ≤ n200
  pub network_retries : w.network.end.parameters.n200 ≤ n200

-- The number of own moves that suffices: those of the frames in transit, and then those of an empty
-- line. The argument is N200, the greater one of both ends.
abbrev pub most_moves_from : ℕ → World → ℕ
most_moves_from n200 w = 2 * frames w + 3 * left w + 6 * n200 + 15

-- From this world the line's own moves, in any order, are few, and when none is possible any more
-- the ends agree.
pub record WorldComesBack (r : Reading) (n200 : ℕ) (w : World) : Type 0 where
  pub few : (moves : List Move) → AreOwn r moves w → length moves ≤ most_moves_from n200 w
  pub agreed : (moves : List Move) → AreOwn r moves w → Rests r (run r moves w)
      → AreAgreed (run r moves w)
