-- A TEI that a side assigns or obtains has no links before, so all that it has then are new.
use Rattle.std.specs.Prelude.{◌≡◌, ℕ, List, Option, Some, None}
use Rattle.rand_pcg.specs.Lcg.{Lcg}
use Rattle.lapd_frame.specs.declared.Side.{Side}
use Rattle.lapd_table.specs.declared.link_id.LinkId.{LinkId}
use Rattle.lapd_table.specs.LinkTable.{link_at}
use Rattle.lapd_sides_links.specs.declared.config.Config.{Config}
use Rattle.lapd_sides_links.specs.declared.link_set.LinkSet.{LinkSet}
use Rattle.lapd_sides_links.specs.Links.{Links}
use Rattle.lapd_sides_links.specs.Shown.{ShowLinks}
use Rattle.lapd_sides.specs.Network.{Network, new_network}
use Rattle.lapd_sides.specs.User.{User, new_user}
use Rattle.lapd_two_side_laws.specs.ExactTimers.{SideStep, stepped_by_all, new_view}
use Rattle.lapd_side_events.specs.Interface.{network_behaviour, user_behaviour}

-- a newly created side after these steps, whatever octets arrive
abbrev pub network_after : Config → List ℕ → List SideStep → Network
network_after config known side_steps =
    (stepped_by_all (network_behaviour config) side_steps (new_view (new_network config known))).now

abbrev pub user_after : Config → Option ℕ → Lcg → List SideStep → User
user_after config fixed random side_steps =
    (stepped_by_all (user_behaviour config) side_steps
    (new_view (new_user config fixed random))).now

-- no link has this id, by the definition and in any table of links that represents it
pub record IsAbsent (side : Side) (links : Links) (id : LinkId) : Type 0 where
  pub link : links id ≡ None
  pub table : (set : LinkSet) → ShowLinks side set links → link_at set.table id ≡ None

-- the TEI has no links, if there is one
abbrev pub HasNoLinks : Side → Links → Option ℕ → Type 0
HasNoLinks side links tei = (id : LinkId) → tei ≡ Some id.tei → IsAbsent side links id
