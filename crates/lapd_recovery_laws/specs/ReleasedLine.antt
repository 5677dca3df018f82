-- A line with both ends in states 4 and 6, and no frame in transit.
use Rattle.std.specs.Prelude.{◌≡◌, ◌⊎◌, ◌≤◌, List, [], length}
use Rattle.lapd_mod128.specs.Counting.{Reading}
use Rattle.lapd_link_definition.specs.declared.state.State.TheVariants.{TeiAssigned, AwaitingRelease}
use Rattle.lapd_link_definition.specs.End.{End}
use Rattle.lapd_pair_laws.specs.Move.{Move}
use Rattle.lapd_pair_laws.specs.World.{World, run}
use Rattle.lapd_recovery_laws.specs.Own.{AreOwn, Rests}
use Rattle.lapd_recovery_laws.specs.Agreed.{AreReleased, AreAgreed}

abbrev pub IsReleasing : End → Type 0
IsReleasing e = (e.state ≡ TeiAssigned) ⊎ (e.state ≡ AwaitingRelease)

pub record IsReleasedLine (w : World) : Type 0 where
  pub user : IsReleasing w.user.end
  pub network : IsReleasing w.network.end
  pub to_user : w.to_user ≡ []
  pub to_network : w.to_network ≡ []

-- the ends agree, both in state 4
pub record IsDown (w : World) : Type 0 where
  pub agreed : AreAgreed w
  pub released : AreReleased w.user.end w.network.end

-- From this world the line's own moves, in any order, are at most six, and when none is possible
-- any more the link is released.
pub record ComesDown (r : Reading) (w : World) : Type 0 where
  pub few : (moves : List Move) → AreOwn r moves w → length moves ≤ 6
  pub down : (moves : List Move) → AreOwn r moves w → Rests r (run r moves w)
      → IsDown (run r moves w)
