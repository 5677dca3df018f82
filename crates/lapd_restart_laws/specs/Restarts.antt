-- Moves of an interface with restarts: a side starts anew, and the octets in transit stay there.
use Rattle.std.specs.Prelude.{ℕ, zero, suc, List, [], ◌∷◌, ◌++◌, length, Option, Some, None}
use Rattle.rand_pcg.specs.Lcg.{Lcg}
use Rattle.lapd_frame.specs.declared.Sapi.TheVariants as sapi
use Rattle.lapd_frame.specs.declared.Sapi.TheVariants.{Call, Packet}
use Rattle.lapd_link_definition.specs.End.{End, waiting}
use Rattle.lapd_table.specs.declared.link_id.LinkId.{LinkId}
use Rattle.lapd_tei.specs.declared.out.TeiOut.TheVariants as outcome
use Rattle.lapd_tei.specs.Message.{group_tei}
use Rattle.lapd_sides_links.specs.declared.config.Config.{Config}
use Rattle.lapd_sides_links.specs.declared.primitive.Primitive.{Primitive}
use Rattle.lapd_sides_links.specs.declared.primitive.Primitive.TheVariants.{Of, Management}
use Rattle.lapd_sides_links.specs.declared.primitive.What.TheVariants as what
use Rattle.lapd_sides_links.specs.Links.{Linked, Links, Served, of_sapi}
use Rattle.lapd_sides.specs.Network.{Network, new_network}
use Rattle.lapd_sides.specs.User.{User, new_user}
use Rattle.lapd_two_side_laws.specs.Establishments.{LinkRecords, side_recorded, nothing_recorded}
use Rattle.lapd_side_events.specs.Interface.{Configs, Interface, Move, happens}

-- A move of an interface. Or the network side restarts, with the TEIs that it knows; or the user
-- side restarts, with a fixed TEI or none, and with the generator of its references.
pub data Change : Type 0 where
  Moves : (move : Move) → Change
  NetworkRestarts : (known : List ℕ) → Change
  UserRestarts : (fixed : Option ℕ) → (random : Lcg) → Change

-- ---- The links of a side that restarts.

-- The end of a new link, but it counts on from the end before: its establishments, and the messages
-- submitted, of which none waits. Code stores neither count, so it represents the new end and this
-- one alike (`new_sides_restart`).
abbrev pub counting_on : End → End → End
counting_on before new = record new {
  establishments = before.establishments;
  given = before.given;
  first = length before.given;
  next = length before.given;
}

-- the link after a restart: by that of a newly created side, and by the one before
abbrev pub link_after : Option Linked → Option Linked → Option Linked
link_after None before = None
link_after (Some new) None = Some new
link_after (Some new) (Some before) = Some (record new { end = counting_on before.end new.end })

abbrev pub served_after : Served → Served → Served
served_after before new = record new { links = λ id. link_after (new.links id) (before.links id) }

abbrev pub network_after : Config → List ℕ → Network → Network
network_after config known s = record (new_network config known) {
  served = served_after s.served (new_network config known).served;
}

abbrev pub user_after : Config → Option ℕ → Lcg → User → User
user_after config fixed random s = record (new_user config fixed random) {
  served = served_after s.served (new_user config fixed random).served;
}

-- ---- A restart, as layer 3 counts it.

-- A restart delivers no primitive, but layer 3 counts as if the side had delivered these. If the
-- side has the link again, the messages that waited count as dropped. If not, its TEI is gone, and
-- they are not counted, as if the terminal had given up the TEI.
abbrev pub drop_all : LinkId → ℕ → List Primitive
drop_all id zero = []
drop_all id (suc n) = Of id (what.Dropped (suc n)) ∷ []

abbrev pub losses_of : LinkId → Option Linked → Option Linked → List Primitive
losses_of id None new = []
losses_of id (Some before) None = Management (outcome.Gone id.tei) ∷ []
losses_of id (Some before) (Some new) = drop_all id (waiting before.end)

abbrev pub losses_at : LinkId → Links → Links → List Primitive
losses_at id before new = losses_of id (before id) (new id)

-- of the links whose TEI is below n
abbrev pub losses_below : ℕ → Links → Links → List Primitive
losses_below zero before new = []
losses_below (suc n) before new = losses_below n before new
    ++ (losses_at (of_sapi Call n) before new ++ (losses_at (of_sapi Packet n) before new
    ++ losses_at (of_sapi sapi.Management n) before new))

unfoldable pub losses : Links → Links → List Primitive
losses before new = losses_below group_tei before new

-- ---- All changes.

abbrev pub changes : Configs → Change → Interface → Interface
changes c (Moves move) i = happens c move i
changes c (NetworkRestarts known) i = record i {
  network = network_after c.network known i.network;
  delivered_to_network = i.delivered_to_network
      ++ losses i.network.served.links (new_network c.network known).served.links;
}
changes c (UserRestarts fixed random) i = record i {
  user = user_after c.user fixed random i.user;
  delivered_to_user = i.delivered_to_user
      ++ losses i.user.served.links (new_user c.user fixed random).served.links;
}

-- a list of changes, one after another
abbrev pub run_across : Configs → List Change → Interface → Interface
run_across c [] i = i
run_across c (change ∷ later) i = run_across c later (changes c change i)

-- a restart changes nothing that is recorded of establishments
abbrev pub change_recorded : Configs → LinkId → Change → Interface → LinkRecords → LinkRecords
change_recorded c id (Moves move) i r = side_recorded c id move.side move.event i r
change_recorded c id restart i r = r

abbrev pub recorded_across : Configs → LinkId → List Change → Interface → LinkRecords → LinkRecords
recorded_across c id [] i r = r
recorded_across c id (change ∷ later) i r =
    recorded_across c id later (changes c change i) (change_recorded c id change i r)

-- recorded from the first of these changes on
abbrev pub records_across : Configs → LinkId → List Change → Interface → LinkRecords
records_across c id all i = recorded_across c id all i
    (record { user = nothing_recorded; network = nothing_recorded })
