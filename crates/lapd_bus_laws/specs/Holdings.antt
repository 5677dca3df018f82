-- The premises on TEIs, and the holding of a TEI: it begins when the network assigns the TEI, and
-- lasts until the network assigns it again.
use Rattle.std.specs.Prelude.{◌≡◌, ◌⊎◌, ℕ, true, false, List, [], slice_get, Some}
use Rattle.std.specs.List.{list_any, remove}
use Rattle.lapd_frame.specs.declared.Side.TheVariants as side
use Rattle.lapd_table.specs.declared.link_id.LinkId.{LinkId}
use Rattle.lapd_sides_links.specs.Effects.{Effects}
use Rattle.lapd_sides.specs.User.{User}
use Rattle.lapd_two_side_laws.specs.Addressed.{those_for}
use Rattle.lapd_side_events.specs.Interface.{Configs, user_behaviour, network_behaviour}
use Rattle.lapd_two_side_laws.specs.Premises.{is_assignment}
use Rattle.lapd_side_events.specs.SideView.{SideView, reaction, does}
use Rattle.lapd_bus_laws.specs.Assignments.{is_taken, awaits, is_answered, claims}
use Rattle.lapd_side_events.specs.Bus.{Bus, BusEvent, OfTerminal, OfNetwork, Join, NewTerminal, new_bus, OverhearsNothing, KeepsTerminal, on_line_of, after_events}
use Rattle.lapd_bus_laws.specs.Links.{Throughout, OfOthers, IsTimelyFor, AssignsOthers}

-- ---- The premises on TEIs, of one event.

abbrev pub AssignsTei : ℕ → Effects → Type 0
AssignsTei tei effects = list_any (is_assignment tei) effects.primitives ≡ true

-- The network assigns a TEI only while no terminal holds it and no assignment of it is in transit.
abbrev pub AssignsFree : Configs → BusEvent → Bus → Type 0
AssignsFree c (OfNetwork j event) b = (t : SideView User) → slice_get b.terminals j ≡ Some t
    → (tei : ℕ)
    → AssignsTei tei (reaction (network_behaviour c.network) event (on_line_of t b)).effects
    → list_any (is_taken tei) b.terminals ≡ false
AssignsFree c other b = Unit {0}

-- No other terminal awaits a TEI by this reference, and no assignment with it is in transit to this
-- terminal, which is the one after the event.
pub record IsOwnReference (ri i : ℕ) (t : SideView User) (b : Bus) : Type 0 where
  pub others : list_any (awaits ri) (remove b.terminals i) ≡ false
  pub unanswered : is_answered ri t ≡ false

-- A terminal requests a TEI only by such a reference.
abbrev pub RequestsByItsOwn : Configs → BusEvent → Bus → Type 0
RequestsByItsOwn c (OfTerminal i event) b = (t : SideView User) → slice_get b.terminals i ≡ Some t
    → (ri : ℕ) → awaits ri (does (user_behaviour c.user) event t) ≡ true
    → (awaits ri t ≡ true) ⊎ IsOwnReference ri i (does (user_behaviour c.user) event t) b
RequestsByItsOwn c other b = Unit {0}

-- A terminal joins with a fixed TEI only if no other terminal holds it and no assignment of it is
-- in transit to another terminal.
abbrev pub JoinsWithFree : BusEvent → Bus → Type 0
JoinsWithFree (Join i new) b = (tei : ℕ) → new.fixed ≡ Some tei
    → list_any (is_taken tei) (remove b.terminals i) ≡ false
JoinsWithFree other b = Unit {0}

-- on a bus a side overhears only what the bus brings about
abbrev pub IsOfBus : BusEvent → Type 0
IsOfBus (OfTerminal j event) = OverhearsNothing event
IsOfBus (OfNetwork j event) = OverhearsNothing event
IsOfBus other = Unit {0}

pub record KeepsTeisApart (c : Configs) (e : BusEvent) (b : Bus) : Type 0 where
  pub of_bus : IsOfBus e
  pub assigns : AssignsFree c e b
  pub requests : RequestsByItsOwn c e b
  pub joins : JoinsWithFree e b

-- No two terminals claim the same TEI, and no two await one by the same reference.
pub record AreApart (b : Bus) : Type 0 where
  pub teis : (tei i j : ℕ) (t u : SideView User) → slice_get b.terminals i ≡ Some t
      → slice_get b.terminals j ≡ Some u → claims tei t ≡ true → claims tei u ≡ true → i ≡ j
  pub references : (ri i j : ℕ) (t u : SideView User) → slice_get b.terminals i ≡ Some t
      → slice_get b.terminals j ≡ Some u → awaits ri t ≡ true → awaits ri u ≡ true → i ≡ j

-- A bus that is reached: any events lead from a new bus to one whose terminals are apart, as those
-- of a new bus are whose fixed TEIs differ, or of a bus after checks of all TEIs. From there events
-- lead to this bus that keep the premises.
pub record IsReached (c : Configs) (b : Bus) : Type 0 where
  pub known : List ℕ
  pub terminals : List NewTerminal
  pub before : List BusEvent
  pub of_bus : Throughout c (λ e b. IsOfBus e) before (new_bus c known terminals)
  pub start : AreApart (after_events c before (new_bus c known terminals))
  pub events : List BusEvent
  pub apart : Throughout c (KeepsTeisApart c) events
      (after_events c before (new_bus c known terminals))
  pub reached : b ≡ after_events c events (after_events c before (new_bus c known terminals))

-- ---- A holding.

-- the network assigns the TEI in this event
abbrev pub Assigns : Configs → ℕ → BusEvent → Bus → Type 0
Assigns c tei (OfNetwork j event) b = (t : SideView User) × (slice_get b.terminals j ≡ Some t)
    × AssignsTei tei (reaction (network_behaviour c.network) event (on_line_of t b)).effects
Assigns c tei other b = ⊥

-- no other terminal holds the TEI, or may still take it
abbrev pub IsOnlyClaimant : ℕ → ℕ → Bus → Type 0
IsOnlyClaimant tei i b = OfOthers (λ t. claims tei t ≡ false) i b

-- No octets of the link are in transit to the network.
abbrev pub IsClearToNetwork : LinkId → Bus → Type 0
IsClearToNetwork id b = (j : ℕ) (t : SideView User) → slice_get b.terminals j ≡ Some t
    → those_for side.User id t.outgoing ≡ []

-- Nor are any to the terminal at this index.
pub record IsClear (id : LinkId) (i : ℕ) (b : Bus) : Type 0 where
  pub to_network : IsClearToNetwork id b
  pub to_terminal : (t : SideView User) → slice_get b.terminals i ≡ Some t
      → those_for side.Network id t.incoming ≡ []

-- The network does not restart, no new terminal replaces the one at this index, and none joins with
-- this TEI as its fixed TEI.
abbrev pub LeavesAlone : ℕ → ℕ → BusEvent → Type 0
LeavesAlone tei i (Join j new) = (j ≡ i → ⊥) × (new.fixed ≡ Some tei → ⊥)
LeavesAlone tei i other = KeepsTerminal i other

-- No assignment with the reference of a new request is in transit to the terminal.
abbrev pub RequestsUnanswered : Configs → BusEvent → Bus → Type 0
RequestsUnanswered c (OfTerminal i event) b = (t : SideView User)
    → slice_get b.terminals i ≡ Some t
    → (ri : ℕ) → awaits ri (does (user_behaviour c.user) event t) ≡ true
    → (awaits ri t ≡ true) ⊎ (is_answered ri (does (user_behaviour c.user) event t) ≡ false)
RequestsUnanswered c other b = Unit {0}

-- The premises of one event in a holding of the TEI. Besides, T200 waits, the TEI is not assigned
-- again, and no terminal requests by a reference that is answered.
pub record KeepsHolding (c : Configs) (id : LinkId) (i : ℕ) (e : BusEvent) (b : Bus) : Type 0 where
  pub leaves : LeavesAlone id.tei i e
  pub timely : IsTimelyFor id i e b
  pub assigns : AssignsOthers c id.tei e b
  pub requests : RequestsUnanswered c e b
