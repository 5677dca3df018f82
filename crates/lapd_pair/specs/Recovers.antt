-- The result of recovering a pair.
use Rattle.std.specs.Prelude.{◌≡◌, ◌<◌, ◌≤◌, ◌+◌, ◌*◌, ℕ, nat_lt, if◌then◌else◌, true, length, Some, is_none, is_ok}
use Rattle.lapd_mod128.specs.Counting.{Tagged}
use Rattle.lapd_pair_laws.specs.Move as world
use Rattle.lapd_pair_laws.specs.World.{World, happens, run, left}
use Rattle.lapd_recovery_laws.specs.Agreed.{AreAgreed}
use Rattle.lapd_recovery_laws.specs.EveryWorld.{IsFreeWorld, most_moves_from}
use Rattle.lapd_recovery_laws.specs.Own.{first_own, recovering, tried}
use Rattle.lapd_pair.specs.Runs.{PairRepresents}
use Rattle.lapd_pair.specs.declared.pair.Pair.{Pair}
use Rattle.lapd_pair.specs.declared.pair_fault.PairFault.{PairFault}
use Rattle.lapd_pair.specs.declared.pair_fault.PairFault.TheVariants.{Memory}
use Rattle.lapd_pair.specs.declared.settled.Settled.{Settled}

abbrev pub greater : ℕ → ℕ → ℕ
greater m n = if nat_lt m n then n else m

-- the greater N200 of both ends
abbrev pub most_retries : World → ℕ
most_retries w = greater w.user.end.parameters.n200 w.network.end.parameters.n200

-- The most moves that are made. They exceed `most_moves_from`, so they never end the recovery of a
-- line with no busy end.
abbrev pub recovery_bound : World → ℕ
recovery_bound w =
    2 * (length w.to_user + length w.to_network) + 3 * left w + 6 * most_retries w + 16

-- the world after it has recovered
abbrev pub recovered : World → World
recovered w = run Tagged (recovering Tagged (recovery_bound w) w) w

-- all moves of recovering were made; `done` has their number and whether another is possible
pub record HasRecovered (p : Pair) (done : Settled) (w : World) : Type 0 where
  pub representation : PairRepresents p (recovered w)
  pub moves : done.moves ≡ length (recovering Tagged (recovery_bound w) w)
  pub rest : done.rest ≡ is_none (first_own Tagged tried (recovered w))

abbrev pub Recovers : Pair → Pair → Settled → Type 0
Recovers old new done = (w : World) → PairRepresents old w → HasRecovered new done w

-- An allocation failed for the next move, which is admitted. The moves before it were made.
pub record HasStoppedRecovering (fault : PairFault) (p : Pair) (w : World) : Type 0 where
  pub memory : fault ≡ Memory
  pub made : ℕ
  pub few : made < recovery_bound w
  pub representation : PairRepresents p (run Tagged (recovering Tagged made w) w)
  pub move : world.Move
  pub next : first_own Tagged tried (run Tagged (recovering Tagged made w) w) ≡ Some move
  pub admitted : is_ok (happens Tagged move (run Tagged (recovering Tagged made w) w)) ≡ true

abbrev pub StopsRecovering : Pair → Pair → PairFault → Type 0
StopsRecovering old new fault =
    (w : World) → PairRepresents old w → HasStoppedRecovering fault new w

-- No further move is possible, at most this many moves were made, and both ends agree.
pub record HaveComeBack (most : ℕ) (done : Settled) (after : World) : Type 0 where
  pub rest : done.rest ≡ true
  pub few : done.moves ≤ most
  pub agreed : ∥ AreAgreed after ∥₁

-- if the pair represented a world with no busy end in state 7 or 8, its ends agree
abbrev pub ComesBack : Pair → Settled → Type 0
ComesBack old done = (w : World) → PairRepresents old w → IsFreeWorld (most_retries w) w
    → HaveComeBack (most_moves_from (most_retries w) w) done (recovered w)
