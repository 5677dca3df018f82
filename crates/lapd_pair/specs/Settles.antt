-- The result of settling a pair.
use Rattle.std.specs.Prelude.{◌≡◌, ◌<◌, ◌≤◌, ℕ, true, List, length, Some, is_none, is_ok}
use Rattle.lapd_pair_laws.specs.Drained.{IsDrained}
use Rattle.lapd_pair_laws.specs.Settle.{IsQuiet, next_move, settling, bound, most_moves}
use Rattle.lapd_mod128.specs.Counting.{Tagged}
use Rattle.lapd_link_definition.specs.Parameters.{Parameters}
use Rattle.lapd_pair_laws.specs.Move as world
use Rattle.lapd_pair_laws.specs.World.{World, new_world, happens, run, left}
use Rattle.lapd_pair.specs.Runs.{PairRepresents}
use Rattle.lapd_pair.specs.declared.pair.Pair.{Pair}
use Rattle.lapd_pair.specs.declared.pair_fault.PairFault.{PairFault}
use Rattle.lapd_pair.specs.declared.pair_fault.PairFault.TheVariants.{Memory}
use Rattle.lapd_pair.specs.declared.settled.Settled.{Settled}

-- the world after it has settled
abbrev pub settled : World → World
settled w = run Tagged (settling Tagged (bound w) w) w

-- all moves of settling were made; `done` has their number and whether another is possible
pub record HasSettled (p : Pair) (done : Settled) (w : World) : Type 0 where
  pub representation : PairRepresents p (settled w)
  pub moves : done.moves ≡ length (settling Tagged (bound w) w)
  pub rest : done.rest ≡ is_none (next_move Tagged (settled w))

abbrev pub Settles : Pair → Pair → Settled → Type 0
Settles old new done = (w : World) → PairRepresents old w → HasSettled new done w

-- An allocation failed for the next move, which is admitted. The moves before it were made.
pub record HasStoppedSettling (fault : PairFault) (p : Pair) (w : World) : Type 0 where
  pub memory : fault ≡ Memory
  pub made : ℕ
  pub few : made < bound w
  pub representation : PairRepresents p (run Tagged (settling Tagged made w) w)
  pub move : world.Move
  pub next : next_move Tagged (run Tagged (settling Tagged made w) w) ≡ Some move
  pub admitted : is_ok (happens Tagged move (run Tagged (settling Tagged made w) w)) ≡ true

abbrev pub StopsSettling : Pair → Pair → PairFault → Type 0
StopsSettling old new fault = (w : World) → PairRepresents old w → HasStoppedSettling fault new w

-- No further move is possible, at most `most_moves` moves were made, no message is left, and no
-- further message was dropped.
pub record IsEmptied (done : Settled) (before after : World) : Type 0 where
  pub rest : done.rest ≡ true
  pub few : done.moves ≤ most_moves before
  pub empty : left after ≡ 0
  pub user : length after.user.history.dropped ≡ length before.user.history.dropped
  pub network : length after.network.history.dropped ≡ length before.network.history.dropped

-- a pair that represented a quiet world is emptied
abbrev pub EmptiesWhereQuiet : Pair → Settled → Type 0
EmptiesWhereQuiet old done =
    (w : World) → PairRepresents old w → IsQuiet w → IsEmptied done w (settled w)

-- Every pair is the result of some moves. If the world that they lead to is quiet, it drains: each
-- message not dropped before is then acknowledged, and was received.
pub record IsDrainedPair (old new : Pair) : Type 0 where
  pub user : Parameters
  pub network : Parameters
  pub moves : List world.Move
  pub representation : PairRepresents old (run Tagged moves (new_world user network))
  pub after : PairRepresents new (settled (run Tagged moves (new_world user network)))
  pub drained : IsQuiet (run Tagged moves (new_world user network))
      → IsDrained Tagged (run Tagged moves (new_world user network))
