-- The premises of one link if sides restart. Those of moves are unchanged (`Premises` of
-- `lapd_two_side_laws`).
use Rattle.std.specs.Prelude.{◌≡◌, true, false, List, [], ◌∷◌, is_some}
use Rattle.std.specs.List.{list_any}
use Rattle.lapd_frame.specs.declared.Side.{Side}
use Rattle.lapd_frame.specs.declared.Side.TheVariants as side
use Rattle.lapd_table.specs.declared.link_id.LinkId.{LinkId}
use Rattle.lapd_sides_links.specs.Links.{Links}
use Rattle.lapd_sides.specs.Network.{new_network}
use Rattle.lapd_sides.specs.User.{new_user}
use Rattle.lapd_side_events.specs.Interface.{Configs, Interface, by_user, by_network}
use Rattle.lapd_sides_links.specs.declared.primitive.Primitive.{Primitive}
use Rattle.lapd_two_side_laws.specs.Premises.{is_removal, IsTimelyMove, IsMoveGivingTeiOnce, IsMoveLeavingTeiTaken}
use Rattle.lapd_side_events.specs.SideView.{SideView}
use Rattle.lapd_restart_laws.specs.Exchanges.{HasNoExchange}
use Rattle.lapd_restart_laws.specs.Restarts.{Change, Moves, NetworkRestarts, UserRestarts, changes}

-- The side does not have the link again after its TEI was removed, or was gone after an earlier
-- restart.
abbrev pub BringsNoLinkBack : LinkId → Links → Links → List Primitive → Type 0
BringsNoLinkBack id before new delivered = is_some (before id) ≡ false → is_some (new id) ≡ true
    → list_any (is_removal id.tei) delivered ≡ false

-- If the side has the link before and after the restart, no exchange of the link is in transit.
abbrev pub LeavesNoExchange : {S : Type 0} → Side → LinkId → Links → Links → SideView S → Type 0
LeavesNoExchange side id before new v = is_some (before id) ≡ true → is_some (new id) ≡ true
    → HasNoExchange side id v

-- both, of a restart with these links
pub record IsQuick {S : Type 0} (side : Side) (id : LinkId) (before new : Links) (v : SideView S) :
    Type 0 where
  pub returns : BringsNoLinkBack id before new v.delivered
  pub quiet : LeavesNoExchange side id before new v

-- a change of an interface keeps the premises of the link
abbrev pub KeepsPremises : Configs → LinkId → Change → Interface → Type 0
KeepsPremises c id (Moves move) i = IsTimelyMove id move.side move.event i
    × IsMoveGivingTeiOnce c id move.side move.event i
KeepsPremises c id (NetworkRestarts known) i = IsQuick side.Network id i.network.served.links
    (new_network c.network known).served.links (by_network i)
KeepsPremises c id (UserRestarts fixed random) i = IsQuick side.User id i.user.served.links
    (new_user c.user fixed random).served.links (by_user i)

-- for newly created sides it is enough that a TEI is not assigned again after it was removed
abbrev pub KeepsPremisesAsMade : Configs → LinkId → Change → Interface → Type 0
KeepsPremisesAsMade c id (Moves move) i = IsTimelyMove id move.side move.event i
    × IsMoveLeavingTeiTaken c id move.side move.event i
KeepsPremisesAsMade c id restart i = KeepsPremises c id restart i

-- so do all changes of a run
abbrev pub KeepPremises : Configs → LinkId → List Change → Interface → Type 0
KeepPremises c id [] i = Unit {0}
KeepPremises c id (change ∷ later) i =
    KeepsPremises c id change i × KeepPremises c id later (changes c change i)

abbrev pub KeepPremisesAsMade : Configs → LinkId → List Change → Interface → Type 0
KeepPremisesAsMade c id [] i = Unit {0}
KeepPremisesAsMade c id (change ∷ later) i =
    KeepsPremisesAsMade c id change i × KeepPremisesAsMade c id later (changes c change i)
