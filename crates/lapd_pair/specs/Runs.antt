-- The results of the calls of a pair, by the moves of the world.
use Rattle.std.specs.Prelude.{◌≡◌, ◌+◌, ℕ, true, List, [], ◌∷◌, take, map, slice_get, Some, Result, Ok, Err, is_ok}
use Rattle.lapd_pair_laws.specs.Reports.{AllReportsExpected, AreFirstDue}
use Rattle.lapd_mod128.specs.Counting.{Reading, Whole, Tagged}
use Rattle.lapd_link_definition.specs.declared.out.Out.{Out}
use Rattle.lapd_link_definition.specs.Parameters.{Parameters}
use Rattle.lapd_pair_laws.specs.Move as world
use Rattle.lapd_pair_laws.specs.Move.{Refusal}
use Rattle.lapd_pair_laws.specs.Safe.{AreSafe}
use Rattle.lapd_pair_laws.specs.Tagged.{tag_world, tag_outcome}
use Rattle.lapd_pair_laws.specs.World.{World, Happened, new_world, happens, world_after, run, outcomes}
use Rattle.lapd_pair.specs.Pair.{RepresentWorld}
use Rattle.lapd_pair.specs.declared.pair.Pair.{Pair}
use Rattle.lapd_pair.specs.declared.pair_fault.RunFault.{RunFault}

-- the pair represents the world
abbrev pub PairRepresents : Pair → World → Type 0
PairRepresents p w = RepresentWorld p.user p.network p.to_user p.to_network w

-- the world admits the move with these outputs, and the pair represents the world after it
pub record HasHappened (p : Pair) (outcome : Result Happened Refusal) (outs : List Out) :
    Type 0 where
  pub happened : Happened
  pub is : outcome ≡ Ok happened
  pub same : happened.outs ≡ outs
  pub representation : PairRepresents p happened.world

-- how many of these moves are refused when they are made one after another
abbrev pub refused_of : Result Happened Refusal → ℕ
refused_of (Ok happened) = 0
refused_of (Err refusal) = 1

abbrev pub refusals : List world.Move → World → ℕ
refusals [] w = 0
refusals (move ∷ moves) w = refused_of (happens Tagged move w)
    + refusals moves (world_after w (happens Tagged move w))

-- An allocation failed for the move at index `at`. The pair represents the world that the moves
-- before it lead to, and the world admits that move.
pub record HasStoppedAt (at : ℕ) (moves : List world.Move) (p : Pair) (w : World) : Type 0 where
  pub move : world.Move
  pub there : slice_get moves at ≡ Some move
  pub before : PairRepresents p (run Tagged (take at moves) w)
  pub admitted : is_ok (happens Tagged move (run Tagged (take at moves) w)) ≡ true

-- the moves that a run made: all, or those before the move whose allocation failed
abbrev pub moves_made : Result ℕ RunFault → List world.Move → List world.Move
moves_made (Ok refused) moves = moves
moves_made (Err fault) moves = take fault.at moves

-- Before each of these moves and after the last, the first frame on its way to each side is due: in
-- states 7 and 8 its N(R) is valid, and it is no unsolicited response. So each frame that one of
-- the moves delivers was due.
abbrev pub AreDueThroughout : Reading → List world.Move → World → Type 0
AreDueThroughout r [] w = AreFirstDue r w
AreDueThroughout r (move ∷ moves) w = AreFirstDue r w
    × AreDueThroughout r moves (world_after w (happens r move w))

-- Every pair is the result of some moves from a new pair, such that:
--   `representation`         it represents the world after these moves, with tags as sequence numbers;
--   `same`           the same moves over whole numbers lead to the same world, up to the tags;
--   `same_outcomes`  and each move has the same result there, up to the tags;
--   `safe`           the histories are safe in both directions;
--   `reports`        no error report other than F, G, H and I ever arose;
--   `due`            every N(R) that arrived in states 7 and 8 was valid, and no response arrived
--                    unsolicited.
pub record IsSafePair (p : Pair) : Type 0 where
  pub user : Parameters
  pub network : Parameters
  pub moves : List world.Move
  pub representation : PairRepresents p (run Tagged moves (new_world user network))
  pub same : run Tagged moves (new_world user network)
      ≡ tag_world (run Whole moves (new_world user network))
  pub same_outcomes : outcomes Tagged moves (new_world user network)
      ≡ map tag_outcome (outcomes Whole moves (new_world user network))
  pub safe : AreSafe (run Tagged moves (new_world user network))
  pub reports : AllReportsExpected (outcomes Tagged moves (new_world user network))
  pub due : AreDueThroughout Tagged moves (new_world user network)
