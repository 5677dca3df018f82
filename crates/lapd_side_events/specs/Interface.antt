-- An interface: a user side, a network side, and the octets in transit between them, in the order
-- in which they were sent.
use Rattle.std.specs.Prelude.{ℕ, List, [], ◌∷◌, Option, Some, None}
use Rattle.lapd_frame.specs.declared.Side.{Side}
use Rattle.lapd_frame.specs.declared.Side.TheVariants as side
use Rattle.lapd_tei.specs.declared.phase.Phase.{Phase}
use Rattle.lapd_table.specs.declared.link_id.LinkId.{LinkId}
use Rattle.lapd_sides_links.specs.declared.config.Config.{Config}
use Rattle.lapd_sides_links.specs.declared.primitive.Primitive.{Primitive}
use Rattle.lapd_sides_links.specs.Links.{Linked, new_linked, parameters_for}
use Rattle.lapd_sides.specs.SideState.{Rules, SideState, expires, takes}
use Rattle.lapd_sides.specs.Network.{Network, network_rules}
use Rattle.lapd_sides.specs.User as user
use Rattle.lapd_sides.specs.User.{User, user_rules}
use Rattle.lapd_side_events.specs.SideView.{Behaviour, SideView, SideEvent, does}

-- ---- The two sides.

-- a link as it joins with its TEI
abbrev pub fresh_link : Config → LinkId → Linked
fresh_link config id = new_linked (parameters_for config id.sapi) config.durations

-- the link that a request refers to: the one that is meant, if any
abbrev pub or_named : LinkId → Option LinkId → LinkId
or_named id None = id
or_named id (Some own) = own

abbrev pub own_link : Phase → LinkId → LinkId
own_link phase id = or_named id (user.own_link phase id)

abbrev pub behaviour : {M : Type 0} → Rules M → Config → Behaviour (SideState M)
behaviour rules config = record {
  takes = takes rules config;
  expires = expires rules config;
  requested = rules.requested config;
  means = λ s id. or_named id (rules.link_of_call s.management id);
  served = λ s. s.served;
  fresh = fresh_link config;
}

abbrev pub network_behaviour : Config → Behaviour Network
network_behaviour = behaviour network_rules

abbrev pub user_behaviour : Config → Behaviour User
user_behaviour = behaviour user_rules

-- the configurations of both sides
pub record Configs : Type 0 where
  pub user : Config
  pub network : Config

-- ---- Both sides, and the octets between them.

pub record Interface : Type 0 where
  pub user : User
  pub network : Network
  pub delivered_to_user : List Primitive
  pub delivered_to_network : List Primitive
  pub given_to_user : List (LinkId × List ℕ)
  pub given_to_network : List (LinkId × List ℕ)
  pub to_user : List (List ℕ)
  pub to_network : List (List ℕ)

-- an interface before its first move
abbrev pub new_interface : User → Network → Interface
new_interface user network = record {
  user = user;
  network = network;
  delivered_to_user = [];
  delivered_to_network = [];
  given_to_user = [];
  given_to_network = [];
  to_user = [];
  to_network = [];
}

-- the same interface, with primitives and messages recorded from this moment on
abbrev pub from_here : Interface → Interface
from_here i = record i {
  delivered_to_user = [];
  delivered_to_network = [];
  given_to_user = [];
  given_to_network = [];
}

-- each side's view of an interface, and the interface with a changed view
abbrev pub by_user : Interface → SideView User
by_user i = record {
  now = i.user;
  delivered = i.delivered_to_user;
  given = i.given_to_user;
  incoming = i.to_user;
  outgoing = i.to_network;
}

abbrev pub by_network : Interface → SideView Network
by_network i = record {
  now = i.network;
  delivered = i.delivered_to_network;
  given = i.given_to_network;
  incoming = i.to_network;
  outgoing = i.to_user;
}

abbrev pub with_user : SideView User → Interface → Interface
with_user v i = record i {
  user = v.now;
  delivered_to_user = v.delivered;
  given_to_user = v.given;
  to_user = v.incoming;
  to_network = v.outgoing;
}

abbrev pub with_network : SideView Network → Interface → Interface
with_network v i = record i {
  network = v.now;
  delivered_to_network = v.delivered;
  given_to_network = v.given;
  to_network = v.incoming;
  to_user = v.outgoing;
}

-- ---- Moves.

-- an event of one of the two sides
pub record Move : Type 0 where
  pub side : Side
  pub event : SideEvent

abbrev pub side_does : Configs → Side → SideEvent → Interface → Interface
side_does c side.User event i = with_user (does (user_behaviour c.user) event (by_user i)) i
side_does c side.Network event i =
    with_network (does (network_behaviour c.network) event (by_network i)) i

abbrev pub happens : Configs → Move → Interface → Interface
happens c move i = side_does c move.side move.event i

-- a list of moves, one after another
abbrev pub run : Configs → List Move → Interface → Interface
run c [] i = i
run c (move ∷ moves) i = run c moves (happens c move i)
