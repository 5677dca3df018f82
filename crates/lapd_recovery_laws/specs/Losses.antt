-- Own moves while frames are still lost, anywhere and at any moment.
use Rattle.std.specs.Prelude.{◌≡◌, ℕ, ◌+◌, ◌*◌, ◌≤◌, ◌||◌, Bool, true, false, List, [], ◌∷◌, length, is_ok}
use Rattle.lapd_mod128.specs.Counting.{Reading}
use Rattle.lapd_pair_laws.specs.Move.{PairEvent, Lose, Move}
use Rattle.lapd_pair_laws.specs.World.{World, happens, world_after, run, left}
use Rattle.lapd_recovery_laws.specs.Agreed.{AreAgreed}
use Rattle.lapd_recovery_laws.specs.EveryWorld.{most_moves_from}
use Rattle.lapd_recovery_laws.specs.Own.{is_due, Rests}

abbrev pub is_loss : PairEvent → Bool
is_loss (Lose at) = true
is_loss event = false

-- an admitted move that the line makes by itself, or the loss of a frame in transit
pub record IsOwnOrLoss (r : Reading) (move : Move) (w : World) : Type 0 where
  pub due : (is_loss move.event || is_due move.event w) ≡ true
  pub admitted : is_ok (happens r move w) ≡ true

-- own moves and losses, one after another, in any order
abbrev pub AreOwnOrLosses : Reading → List Move → World → Type 0
AreOwnOrLosses r [] w = Unit {0}
AreOwnOrLosses r (move ∷ moves) w = IsOwnOrLoss r move w
    × AreOwnOrLosses r moves (world_after w (happens r move w))

abbrev pub one_if : Bool → ℕ
one_if true = 1
one_if false = 0

-- how many frames these moves lose
abbrev pub losses : List Move → ℕ
losses [] = 0
losses (move ∷ moves) = one_if (is_loss move.event) + losses moves

-- The number of own moves and losses that suffices if at most `lost` frames are lost: that without
-- a loss, and for each loss as many as bring the line back from any world behind it. The second
-- argument is N200, the greater one of both ends.
abbrev pub most_moves_despite : ℕ → ℕ → World → ℕ
most_moves_despite lost n200 w = most_moves_from n200 w + lost * (4 * left w + 6 * n200 + 18)

-- From this world own moves and losses, in any order, are few if few frames are lost, and when no
-- own move is possible any more the ends agree.
pub record ComesBackDespite (r : Reading) (n200 : ℕ) (w : World) : Type 0 where
  pub few : (lost : ℕ) (moves : List Move) → AreOwnOrLosses r moves w → losses moves ≤ lost
      → length moves ≤ most_moves_despite lost n200 w
  pub agreed : (moves : List Move) → AreOwnOrLosses r moves w → Rests r (run r moves w)
      → AreAgreed (run r moves w)
