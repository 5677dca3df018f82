-- A bus: one network side and the terminals on one line, as on a passive bus. Each frame of the
-- network goes to all terminals. Each terminal has a line of its own in each direction. Lines keep
-- order, and repeat and alter nothing; each terminal may lose octets that others receive.
use Rattle.std.specs.Prelude.{◌≡◌, ℕ, ◌==◌, Bool, true, false, List, [], ◌∷◌, ◌++◌, map, set, slice_get, Option, Some, None}
use Rattle.rand_pcg.specs.Lcg.{Lcg}
use Rattle.lapd_frame.specs.declared.Side.TheVariants as side
use Rattle.lapd_table.specs.declared.link_id.LinkId.{LinkId}
use Rattle.lapd_sides_links.specs.declared.primitive.Primitive.{Primitive}
use Rattle.lapd_sides.specs.Network.{Network, new_network}
use Rattle.lapd_sides.specs.User.{User, new_user}
use Rattle.lapd_side_events.specs.Interface.{Configs, Interface, Move, run, user_behaviour, network_behaviour}
use Rattle.lapd_side_events.specs.SideView.{SideView, SideEvent, Take, Lose, Overhear, reaction, accepted, left, does}

-- The network side, what it delivered, and the messages that it accepted; and the terminals, each
-- with the octets in transit to it and from it.
pub record Bus : Type 0 where
  pub network : Network
  pub delivered : List Primitive
  pub given : List (LinkId × List ℕ)
  pub terminals : List (SideView User)

-- a terminal before its first event: with a fixed TEI or without one, and with its references
pub record NewTerminal : Type 0 where
  pub fixed : Option ℕ
  pub random : Lcg

abbrev pub connected : Configs → NewTerminal → SideView User
connected c new = record {
  now = new_user c.user new.fixed new.random;
  delivered = [];
  given = [];
  incoming = [];
  outgoing = [];
}

-- a bus before its first event; the network knows these TEIs
abbrev pub new_bus : Configs → List ℕ → List NewTerminal → Bus
new_bus c known terminals = record {
  network = new_network c.network known;
  delivered = [];
  given = [];
  terminals = map (connected c) terminals;
}

-- the same bus, with primitives and messages recorded from this moment on
abbrev pub recorded_anew : SideView User → SideView User
recorded_anew t = record t { delivered = []; given = [] }

abbrev pub from_now : Bus → Bus
from_now b = record b {
  delivered = [];
  given = [];
  terminals = map recorded_anew b.terminals;
}

-- ---- Events.

-- An event of the terminal at an index; an event of the network, with the line of the terminal at
-- an index, from which it takes or loses octets; a new terminal replaces the one at an index, whose
-- octets stay in transit; or the network restarts with these TEIs.
pub data BusEvent : Type 0 where
  OfTerminal : ℕ → SideEvent → BusEvent
  OfNetwork : ℕ → SideEvent → BusEvent
  Join : ℕ → NewTerminal → BusEvent
  Restart : List ℕ → BusEvent

-- the network's view of the line of one terminal
abbrev pub on_line_of : SideView User → Bus → SideView Network
on_line_of t b = record {
  now = b.network;
  delivered = b.delivered;
  given = b.given;
  incoming = t.outgoing;
  outgoing = t.incoming;
}

abbrev pub with_terminal : ℕ → SideView User → Bus → Bus
with_terminal i t b = record b { terminals = set b.terminals i t }

-- the frames of the network are now in transit to the terminal too
abbrev pub reached_by : List (List ℕ) → SideView User → SideView User
reached_by frames t = record t { incoming = t.incoming ++ frames }

-- the octets that stay in transit from the terminal
abbrev pub left_of : SideEvent → SideView User → SideView User
left_of event t = record t { outgoing = left event t.outgoing }

abbrev pub network_did : Configs → ℕ → SideEvent → SideView User → Bus → Bus
network_did c i event t b = record {
  network = (reaction (network_behaviour c.network) event (on_line_of t b)).after;
  delivered = b.delivered
      ++ (reaction (network_behaviour c.network) event (on_line_of t b)).effects.primitives;
  given = b.given ++ accepted (network_behaviour c.network) event (on_line_of t b);
  terminals = map
      (reached_by (reaction (network_behaviour c.network) event (on_line_of t b)).effects.frames)
      (set b.terminals i (left_of event t));
}

-- nothing happens at an index without a terminal
abbrev pub terminal_does : Configs → ℕ → SideEvent → Option (SideView User) → Bus → Bus
terminal_does c i event None b = b
terminal_does c i event (Some t) b = with_terminal i (does (user_behaviour c.user) event t) b

abbrev pub network_does : Configs → ℕ → SideEvent → Option (SideView User) → Bus → Bus
network_does c i event None b = b
network_does c i event (Some t) b = network_did c i event t b

abbrev pub terminal_joins : Configs → ℕ → NewTerminal → Option (SideView User) → Bus → Bus
terminal_joins c i new None b = b
terminal_joins c i new (Some t) b =
    with_terminal i (record t { now = new_user c.user new.fixed new.random }) b

abbrev pub bus_step : Configs → BusEvent → Bus → Bus
bus_step c (OfTerminal i event) b = terminal_does c i event (slice_get b.terminals i) b
bus_step c (OfNetwork i event) b = network_does c i event (slice_get b.terminals i) b
bus_step c (Join i new) b = terminal_joins c i new (slice_get b.terminals i) b
bus_step c (Restart known) b = record b { network = new_network c.network known }

abbrev pub after_events : Configs → List BusEvent → Bus → Bus
after_events c [] b = b
after_events c (e ∷ es) b = after_events c es (bus_step c e b)

-- ---- The interface of one terminal and the network.

abbrev pub interface_of : SideView User → Bus → Interface
interface_of t b = record {
  user = t.now;
  network = b.network;
  delivered_to_user = t.delivered;
  delivered_to_network = b.delivered;
  given_to_user = t.given;
  given_to_network = b.given;
  to_user = t.incoming;
  to_network = t.outgoing;
}

-- an event of the network with the line of another terminal, in this interface: the network
-- overhears what it takes from there
abbrev pub overheard : SideEvent → List (List ℕ) → List SideEvent
overheard (Take now) [] = []
overheard (Take now) (octets ∷ rest) = Overhear octets now ∷ []
overheard (Lose at) line = []
overheard event line = event ∷ []

abbrev pub by_network_of : SideEvent → Move
by_network_of event = record { side = side.Network; event = event }

abbrev pub by_user_of : SideEvent → Move
by_user_of event = record { side = side.User; event = event }

-- The interface of this terminal after an event of the network with the line of another one is the
-- one that these moves lead to.
abbrev pub IsOverheard : Configs → SideEvent → SideView User → SideView User → Bus → Type 0
IsOverheard c event t other b =
    record (interface_of t b) {
      network = (reaction (network_behaviour c.network) event (on_line_of other b)).after;
      delivered_to_network = b.delivered
          ++ (reaction (network_behaviour c.network) event (on_line_of other b)).effects.primitives;
      given_to_network = b.given
          ++ accepted (network_behaviour c.network) event (on_line_of other b);
      to_user = t.incoming
          ++ (reaction (network_behaviour c.network) event (on_line_of other b)).effects.frames;
    }
    ≡ run c (map by_network_of (overheard event other.outgoing)) (interface_of t b)

-- ---- The moves of a terminal's interface that an event of the bus is.

-- of an event of a terminal, this one or another
abbrev pub terminal_moves : Bool → SideEvent → List Move
terminal_moves true event = by_user_of event ∷ []
terminal_moves false event = []

-- of an event of the network with the line of a terminal, this one or another
abbrev pub network_moves : Bool → SideEvent → Option (SideView User) → List Move
network_moves own event None = []
network_moves true event (Some t) = by_network_of event ∷ []
network_moves false event (Some t) = map by_network_of (overheard event t.outgoing)

abbrev pub moves_of : ℕ → BusEvent → Bus → List Move
moves_of i (OfTerminal j event) b = terminal_moves (j == i) event
moves_of i (OfNetwork j event) b = network_moves (j == i) event (slice_get b.terminals j)
moves_of i (Join j new) b = []
moves_of i (Restart known) b = []

abbrev pub moves_along : Configs → ℕ → List BusEvent → Bus → List Move
moves_along c i [] b = []
moves_along c i (e ∷ es) b = moves_of i e b ++ moves_along c i es (bus_step c e b)

-- on a bus a side overhears only what the bus brings about, so no event says so
abbrev pub OverhearsNothing : SideEvent → Type 0
OverhearsNothing (Overhear octets now) = ⊥
OverhearsNothing event = Unit {0}

-- The network does not restart, and no new terminal replaces the one at this index. Other terminals
-- may be replaced.
abbrev pub KeepsTerminal : ℕ → BusEvent → Type 0
KeepsTerminal i (OfTerminal j event) = OverhearsNothing event
KeepsTerminal i (OfNetwork j event) = OverhearsNothing event
KeepsTerminal i (Join j new) = j ≡ i → ⊥
KeepsTerminal i (Restart known) = ⊥

-- After these events a terminal still exists at this index, and its interface is the one that the
-- moves lead to.
pub record Follows (c : Configs) (i : ℕ) (events : List BusEvent) (t : SideView User) (b : Bus)
    : Type 0 where
  pub terminal : SideView User
  pub there : slice_get (after_events c events b).terminals i ≡ Some terminal
  pub moved : interface_of terminal (after_events c events b)
      ≡ run c (moves_along c i events b) (interface_of t b)
