-- When the octets in transit were sent, by a clock that both sides of an interface share.
use Rattle.std.specs.Prelude.{◌≡◌, ℕ, List, [], ◌++◌, drop, map}
use Rattle.std.specs.List.{remove}
use Rattle.lapd_frame.specs.declared.Side.{Side}
use Rattle.lapd_frame.specs.declared.Side.TheVariants as side
use Rattle.lapd_side_events.specs.Interface.{Configs, Interface, user_behaviour, network_behaviour, by_user, by_network}
use Rattle.lapd_side_events.specs.SideView.{Behaviour, SideView, SideEvent, Take, Lose, Expire, Ask, Overhear, reaction}

-- octets in transit, and the moment at which they were sent, in milliseconds
pub record Sent : Type 0 where
  pub octets : List ℕ
  pub at : ℕ

abbrev pub octets_of : List Sent → List (List ℕ)
octets_of line = map (λ (sent : Sent). sent.octets) line

-- the moment of the latest event, and the octets in transit to each side
pub record Clock : Type 0 where
  pub now : ℕ
  pub to_user : List Sent
  pub to_network : List Sent

-- a clock that shows the octets in transit of an interface
pub record Shows (k : Clock) (i : Interface) : Type 0 where
  pub to_user : octets_of k.to_user ≡ i.to_user
  pub to_network : octets_of k.to_network ≡ i.to_network

-- a clock at this moment, with nothing in transit
abbrev pub new_clock : ℕ → Clock
new_clock now = record { now = now; to_user = []; to_network = [] }

-- ---- A side's view of it, and an event of that side.

pub record SideClock : Type 0 where
  pub now : ℕ
  pub incoming : List Sent
  pub outgoing : List Sent

-- the moment of an event; octets are lost at no moment of their own, so then that of the event
-- before
abbrev pub moment_of : SideEvent → ℕ → ℕ
moment_of (Take now) latest = now
moment_of (Lose at) latest = latest
moment_of (Expire timer of now) latest = now
moment_of (Ask request now) latest = now
moment_of (Overhear octets now) latest = now

-- the octets that stay in transit to the side
abbrev pub still_in_transit : SideEvent → List Sent → List Sent
still_in_transit (Take now) line = drop 1 line
still_in_transit (Lose at) line = remove line at
still_in_transit other line = line

-- frames that are sent now
abbrev pub sent_at : ℕ → List (List ℕ) → List Sent
sent_at now frames = map (λ (octets : List ℕ). record { octets = octets; at = now }) frames

abbrev pub ticks : {S : Type 0} → Behaviour S → SideEvent → SideView S → SideClock → SideClock
ticks w event v k = record {
  now = moment_of event k.now;
  incoming = still_in_transit event k.incoming;
  outgoing = k.outgoing
      ++ sent_at (moment_of event k.now) (reaction w event v).effects.frames;
}

-- ---- Both sides.

abbrev pub user_clock : Clock → SideClock
user_clock k = record { now = k.now; incoming = k.to_user; outgoing = k.to_network }

abbrev pub network_clock : Clock → SideClock
network_clock k = record { now = k.now; incoming = k.to_network; outgoing = k.to_user }

abbrev pub from_user_clock : SideClock → Clock
from_user_clock k = record { now = k.now; to_user = k.incoming; to_network = k.outgoing }

abbrev pub from_network_clock : SideClock → Clock
from_network_clock k = record { now = k.now; to_user = k.outgoing; to_network = k.incoming }

-- the clock after an event of this side
abbrev pub clock_after : Configs → Side → SideEvent → Interface → Clock → Clock
clock_after c side.User event i k =
    from_user_clock (ticks (user_behaviour c.user) event (by_user i) (user_clock k))
clock_after c side.Network event i k =
    from_network_clock (ticks (network_behaviour c.network) event (by_network i) (network_clock k))
