-- The premises on one link between the network and one terminal of a bus, and when it is new there.
use Rattle.std.specs.Prelude.{◌≡◌, ◌⊎◌, ℕ, false, List, [], ◌∷◌, slice_get, Some, None}
use Rattle.std.specs.List.{list_any}
use Rattle.lapd_frame.specs.declared.Side.TheVariants as side
use Rattle.lapd_link_definition.specs.End.{new_end}
use Rattle.lapd_link_definition.specs.Parameters.{Parameters}
use Rattle.lapd_table.specs.declared.link_id.LinkId.{LinkId}
use Rattle.lapd_sides_links.specs.Effects.{Effects}
use Rattle.lapd_sides.specs.User.{User}
use Rattle.lapd_two_side_laws.specs.Addressed.{those_for}
use Rattle.lapd_side_events.specs.Interface.{Configs, fresh_link, user_behaviour, network_behaviour}
use Rattle.lapd_two_side_laws.specs.Premises.{IsTimely, GivesTeiOnce, is_assignment}
use Rattle.lapd_two_side_laws.specs.Primitives.{link_primitives}
use Rattle.lapd_two_side_laws.specs.Projects.{HasLink, AwaitsLink}
use Rattle.lapd_side_events.specs.SideView.{SideView, reaction}
use Rattle.lapd_bus_laws.specs.Assignments.{holds}
use Rattle.lapd_side_events.specs.Bus.{Bus, BusEvent, OfTerminal, OfNetwork, Join, Restart, on_line_of, bus_step}

-- Each of these events has this property, in the bus that it happens on, by this step.
abbrev pub ThroughoutBy : (BusEvent → Bus → Bus) → (BusEvent → Bus → Type 0) → List BusEvent → Bus
    → Type 0
ThroughoutBy step P [] b = Unit {0}
ThroughoutBy step P (e ∷ es) b = P e b × ThroughoutBy step P es (step e b)

abbrev pub Throughout : Configs → (BusEvent → Bus → Type 0) → List BusEvent → Bus → Type 0
Throughout c P events b = ThroughoutBy (bus_step c) P events b

-- T200 of the link does not expire at the terminal at this index, nor at the network, while a
-- command with P=1 or a response with F=1 that it waits for is in transit between both.
abbrev pub IsTimelyFor : LinkId → ℕ → BusEvent → Bus → Type 0
IsTimelyFor id i (OfTerminal j event) b = j ≡ i → (t : SideView User)
    → slice_get b.terminals i ≡ Some t → IsTimely side.User id event t
IsTimelyFor id i (OfNetwork j event) b = (t : SideView User)
    → slice_get b.terminals i ≡ Some t → IsTimely side.Network id event (on_line_of t b)
IsTimelyFor id i (Join j new) b = Unit {0}
IsTimelyFor id i (Restart known) b = Unit {0}

abbrev pub IsNotAssigned : ℕ → Effects → Type 0
IsNotAssigned tei effects = list_any (is_assignment tei) effects.primitives ≡ false

-- the network does not assign the TEI
abbrev pub AssignsOthers : Configs → ℕ → BusEvent → Bus → Type 0
AssignsOthers c tei (OfNetwork j event) b = (t : SideView User)
    → slice_get b.terminals j ≡ Some t
    → IsNotAssigned tei (reaction (network_behaviour c.network) event (on_line_of t b)).effects
AssignsOthers c tei other b = Unit {0}

-- The network does not assign the TEI while it has the link, nor after the TEI was removed.
abbrev pub AssignsOnce : Configs → LinkId → BusEvent → Bus → Type 0
AssignsOnce c id (OfNetwork j event) b = (t : SideView User) → slice_get b.terminals j ≡ Some t
    → GivesTeiOnce (network_behaviour c.network) id event (on_line_of t b)
AssignsOnce c id other b = Unit {0}

-- The terminal at this index obtains the TEI once, no other terminal obtains it, and none joins
-- with it.
abbrev pub ObtainsOnce : Configs → LinkId → ℕ → BusEvent → Bus → Type 0
ObtainsOnce c id i (OfTerminal j event) b = (t : SideView User) → slice_get b.terminals j ≡ Some t
    → (j ≡ i → GivesTeiOnce (user_behaviour c.user) id event t)
    × ((j ≡ i → ⊥) → IsNotAssigned id.tei (reaction (user_behaviour c.user) event t).effects)
ObtainsOnce c id i (OfNetwork j event) b = Unit {0}
ObtainsOnce c id i (Join j new) b = new.fixed ≡ Some id.tei → ⊥
ObtainsOnce c id i (Restart known) b = Unit {0}

-- every terminal but the one at this index has this property
abbrev pub OfOthers : (SideView User → Type 0) → ℕ → Bus → Type 0
OfOthers P i b = (j : ℕ) (t : SideView User) → slice_get b.terminals j ≡ Some t → (j ≡ i → ⊥) → P t

-- a terminal that does not hold the TEI, has no such link, and no octets of it on its line to the
-- network
pub record IsAside (id : LinkId) (t : SideView User) : Type 0 where
  pub unheld : holds id.tei t ≡ false
  pub link : t.now.served.links id ≡ None
  pub line : those_for side.User id t.outgoing ≡ []

abbrev pub IsSole : LinkId → ℕ → Bus → Type 0
IsSole id i b = OfOthers (IsAside id) i b

-- The link is new between the network and this terminal: on each side it exists as new, or is to
-- come with its TEI; and no octets of it are on the terminal's lines.
pub record IsNewHere (c : Configs) (id : LinkId) (p q : Parameters) (t : SideView User) (b : Bus)
    : Type 0 where
  pub user : HasLink t.now.served.links id (new_end p)
      ⊎ AwaitsLink (fresh_link c.user id) t.now.served.links id (new_end p)
  pub network : HasLink b.network.served.links id (new_end q)
      ⊎ AwaitsLink (fresh_link c.network id) b.network.served.links id (new_end q)
  pub to_user : those_for side.Network id t.incoming ≡ []
  pub to_network : those_for side.User id t.outgoing ≡ []

-- no other terminal delivers anything about the link, with primitives recorded from here on
abbrev pub IsNobodyElses : LinkId → ℕ → Bus → Type 0
IsNobodyElses id i b = OfOthers (λ t. link_primitives id t.delivered ≡ []) i b
