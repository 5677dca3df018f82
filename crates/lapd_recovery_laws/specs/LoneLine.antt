-- A line with one end in state 7 or 8 and the other in state 4, as after a restart, and no frame in
-- transit.
use Rattle.std.specs.Prelude.{◌≡◌, ◌⊎◌, ℕ, ◌+◌, ◌*◌, ◌≤◌, true, List, [], length}
use Rattle.lapd_mod128.specs.Counting.{Reading}
use Rattle.lapd_link_definition.specs.declared.state.State.TheVariants.{TeiAssigned}
use Rattle.lapd_link_definition.specs.EndOfStep.{is_7_or_8}
use Rattle.lapd_link_definition.specs.End.{End}
use Rattle.lapd_pair_laws.specs.Move.{Move}
use Rattle.lapd_pair_laws.specs.Safe.{AreSafe}
use Rattle.lapd_pair_laws.specs.World.{World, run, left}
use Rattle.lapd_recovery_laws.specs.Own.{AreOwn, Rests}
use Rattle.lapd_recovery_laws.specs.Agreed.{AreLevel, AreAgreed}

-- x is in state 7 or 8 and retransmits at most n200 times; its peer is in state 4
pub record IsLone (n200 : ℕ) (x y : End) : Type 0 where
  pub open_state : is_7_or_8 x.state ≡ true
  pub retries : x.parameters.n200 ≤ n200
  pub released : y.state ≡ TeiAssigned

pub record IsLoneLine (n200 : ℕ) (w : World) : Type 0 where
  pub ends : IsLone n200 w.user.end w.network.end ⊎ IsLone n200 w.network.end w.user.end
  pub to_user : w.to_user ≡ []
  pub to_network : w.to_network ≡ []

-- the number of own moves that suffices
abbrev pub most_lone_moves : ℕ → World → ℕ
most_lone_moves n200 w = 3 * left w + 2 * n200 + 5

-- the ends agree, both in state 7, and all that is acknowledged was received
pub record IsUpAnew (w : World) : Type 0 where
  pub agreed : AreAgreed w
  pub level : AreLevel w.user.end w.network.end
  pub safe : AreSafe w

-- From this world the line's own moves, in any order, are few, and when none is possible any more
-- the link is up.
pub record ComesUpAnew (r : Reading) (n200 : ℕ) (w : World) : Type 0 where
  pub few : (moves : List Move) → AreOwn r moves w → length moves ≤ most_lone_moves n200 w
  pub up : (moves : List Move) → AreOwn r moves w → Rests r (run r moves w)
      → IsUpAnew (run r moves w)
