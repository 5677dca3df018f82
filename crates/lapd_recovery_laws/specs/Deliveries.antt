-- Deliveries alone: the frames in transit are delivered, in any order of the two directions, and no
-- timer expires.
use Rattle.std.specs.Prelude.{◌≡◌, ℕ, ◌+◌, ◌*◌, ◌≤◌, true, false, List, [], ◌∷◌, length, is_ok}
use Rattle.lapd_frame.specs.declared.Side.{Side}
use Rattle.lapd_mod128.specs.Counting.{Reading}
use Rattle.lapd_pair_laws.specs.Move.{Deliver, Move}
use Rattle.lapd_pair_laws.specs.World.{World, happens, world_after, run, left}
use Rattle.lapd_recovery_laws.specs.Own.{is_line_empty}

-- admitted deliveries, one after another
abbrev pub AreDeliveries : Reading → List Move → World → Type 0
AreDeliveries r [] w = Unit {0}
AreDeliveries r (move ∷ moves) w = (move.event ≡ Deliver) × (is_ok (happens r move w) ≡ true)
    × AreDeliveries r moves (world_after w (happens r move w))

-- no delivery is possible
abbrev pub NothingArrives : Reading → World → Type 0
NothingArrives r w = (side : Side)
    → is_ok (happens r (record { side = side; event = Deliver }) w) ≡ false

-- how many frames are in transit, in both directions
abbrev pub frames : World → ℕ
frames w = length w.to_user + length w.to_network

-- The number of deliveries that suffices. A frame may be answered, so it counts twice. A message
-- left may be sent in vain, and then sent again and acknowledged, so it counts three times. The
-- rest is for a REJ of each end, or for the DISC of a pending release and its answer.
abbrev pub most_deliveries : World → ℕ
most_deliveries w = 2 * frames w + 3 * left w + 4

-- From this world deliveries alone are few, and when none is possible any more, no frame is in
-- transit.
pub record RunsEmpty (r : Reading) (w : World) : Type 0 where
  pub few : (moves : List Move) → AreDeliveries r moves w → length moves ≤ most_deliveries w
  pub empty : (moves : List Move) → AreDeliveries r moves w → NothingArrives r (run r moves w)
      → is_line_empty (run r moves w) ≡ true
