-- The ends of a link of two sides agree.
use Rattle.std.specs.Prelude.{◌≡◌, ◌⊎◌, Some}
use Rattle.lapd_table.specs.declared.link_id.LinkId.{LinkId}
use Rattle.lapd_sides_links.specs.Links.{Linked}
use Rattle.lapd_recovery_laws.specs.Agreed.{AreReleased}
use Rattle.lapd_recovery_laws.specs.KeptAgreement.{AreEqual}
use Rattle.lapd_side_events.specs.Interface.{Interface}
use Rattle.lapd_side_recovery_laws.specs.Counts.{left_on}

-- The link exists on both sides, and no message is left: each was acknowledged or dropped. Both
-- ends are in state 4, or both in states 7 and 8 with equal numbers.
pub record AreInAgreement (id : LinkId) (i : Interface) : Type 0 where
  pub user : Linked
  pub network : Linked
  pub user_there : i.user.served.links id ≡ Some user
  pub network_there : i.network.served.links id ≡ Some network
  pub empty : left_on id i ≡ 0
  pub ends : AreReleased user.end network.end ⊎ AreEqual user.end network.end
