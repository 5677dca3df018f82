-- What a move of a bus does: which event of the bus it is, or that it is none.
use Rattle.std.specs.Prelude.{◌≡◌, ◌<◌, ◌≤◌, ℕ, List, [], length, Option, Some, None, Result, Err, IsOk, slice_get}
use Rattle.lapd_sides_links.specs.declared.config.Config.{Config}
use Rattle.lapd_sides_links.specs.declared.running_timer.RunningTimer.{RunningTimer}
use Rattle.lapd_sides_links.specs.declared.side_fault.SideKind.{SideKind}
use Rattle.lapd_sides_links.specs.Effects.{Effects, no_effects}
use Rattle.lapd_sides_links.specs.Expiries.{IsDue}
use Rattle.lapd_sides_links.specs.Links.{Reaction, Served}
use Rattle.lapd_sides.specs.declared.request.Request.{Request}
use Rattle.lapd_sides.specs.Requests.{message_of}
use Rattle.lapd_sides.specs.User.{User}
use Rattle.lapd_side_events.specs.Interface.{Configs, network_behaviour, user_behaviour}
use Rattle.lapd_side_events.specs.SideView.{SideView, SideEvent, Take, Lose, Expire, Ask, reaction, does}
use Rattle.lapd_side_events.specs.Bus.{Bus, BusEvent, OfTerminal, OfNetwork, bus_step, on_line_of}
use Rattle.lapd_bus.specs.declared.bus_move.BusMove.{BusMove}
use Rattle.lapd_bus.specs.declared.bus_move.BusMove.TheVariants as move
use Rattle.lapd_bus.specs.declared.bus_move.Outcome.{Outcome}
use Rattle.lapd_bus.specs.declared.bus_move.Outcome.TheVariants as outcome
use Rattle.lapd_bus.specs.declared.bus_move.Station.{Station}
use Rattle.lapd_bus.specs.declared.bus_move.Station.TheVariants as station
use Rattle.lapd_bus.specs.declared.side_bus.SideBus.{SideBus}
use Rattle.lapd_bus.specs.declared.terminal.Terminal.{Terminal}
use Rattle.lapd_bus.specs.Shows.{ShowBus, ShowTerminal}
use Rattle.lapd_bus.specs.Stations.{index_of}

-- ---- The outcome of a move of one side. `Happens` says that an event has happened, and `Stays`
-- that none has.

-- it takes the first octets of a line, if there are any
abbrev pub Takes : ℕ → List (List ℕ) → (SideEvent → Type 0) → Type 0 → Outcome → Type 0
Takes now line Happens Stays outcome.Made = (0 < length line) × Happens (Take now)
Takes now line Happens Stays outcome.Nothing = (line ≡ []) × Stays
Takes now line Happens Stays (outcome.Refused fault) = ⊥

-- octets are lost, if there are any at this place
abbrev pub Loses : ℕ → List (List ℕ) → (SideEvent → Type 0) → Type 0 → Outcome → Type 0
Loses place line Happens Stays outcome.Made = (place < length line) × Happens (Lose place)
Loses place line Happens Stays outcome.Nothing = (length line ≤ place) × Stays
Loses place line Happens Stays (outcome.Refused fault) = ⊥

-- the first due timer expires, if one is due
abbrev pub Expires : ℕ → Served → (SideEvent → Type 0) → Type 0 → Outcome → Type 0
Expires now served Happens Stays outcome.Made =
    (e : RunningTimer) × IsDue now served (Some e) × Happens (Expire e.timer e.of now)
Expires now served Happens Stays outcome.Nothing = IsDue now served None × Stays
Expires now served Happens Stays (outcome.Refused fault) = ⊥

-- the side executes a request, or refuses it and returns its message
abbrev pub Asks : {S : Type 0} → Request → ℕ → Result (Reaction S) SideKind
    → (SideEvent → Type 0) → Type 0 → Outcome → Type 0
Asks request now answer Happens Stays outcome.Made = IsOk answer × Happens (Ask request now)
Asks request now answer Happens Stays outcome.Nothing = ⊥
Asks request now answer Happens Stays (outcome.Refused fault) =
    (answer ≡ Err fault.kind) × (fault.message ≡ message_of request) × Stays

-- ---- A terminal.

-- the event of the terminal has happened, and these are its effects
pub record TerminalDoes (code : Terminal) (config : Config) (acts : Effects) (t : SideView User)
    (event : SideEvent) : Type 0 where
  pub shown : ShowTerminal code config (does (user_behaviour config) event t)
  pub effects : acts ≡ (reaction (user_behaviour config) event t).effects

-- nothing has happened
pub record TerminalStays (code : Terminal) (config : Config) (acts : Effects) (t : SideView User)
    : Type 0 where
  pub shown : ShowTerminal code config t
  pub nothing : acts ≡ no_effects

-- ---- A bus.

abbrev pub event_at : Station → SideEvent → BusEvent
event_at (station.Terminal at) event = OfTerminal at event
event_at (station.Network at) event = OfNetwork at event

-- the octets in transit to the side, on the line of this terminal
abbrev pub line_to : Station → SideView User → List (List ℕ)
line_to (station.Terminal at) t = t.incoming
line_to (station.Network at) t = t.outgoing

-- the octets in transit to the side; none without a terminal at its index
abbrev pub on_line : Station → Option (SideView User) → List (List ℕ)
on_line at None = []
on_line at (Some t) = line_to at t

abbrev pub octets_to : Station → Bus → List (List ℕ)
octets_to at b = on_line at (slice_get b.terminals (index_of at))

-- the links and timers of the side
abbrev pub served_at : Station → SideView User → Bus → Served
served_at (station.Terminal at) t b = t.now.served
served_at (station.Network at) t b = b.network.served

-- the effects of an event of the side, on the line of this terminal
abbrev pub effects_at : Configs → Station → SideEvent → SideView User → Bus → Effects
effects_at c (station.Terminal at) event t b = (reaction (user_behaviour c.user) event t).effects
effects_at c (station.Network at) event t b =
    (reaction (network_behaviour c.network) event (on_line_of t b)).effects

-- the event of the bus has happened, and these are its effects
pub record BusDoes (code : SideBus) (c : Configs) (acts : Effects) (at : Station)
    (t : SideView User) (b : Bus) (event : SideEvent) : Type 0 where
  pub shown : ShowBus code c (bus_step c (event_at at event) b)
  pub effects : acts ≡ effects_at c at event t b

-- nothing has happened
pub record BusStays (code : SideBus) (c : Configs) (acts : Effects) (b : Bus) : Type 0 where
  pub shown : ShowBus code c b
  pub nothing : acts ≡ no_effects

-- a request at the side
abbrev pub AsksAt : Configs → Station → Request → ℕ → SideView User → Bus → (SideEvent → Type 0)
    → Type 0 → Outcome → Type 0
AsksAt c (station.Terminal at) request now t b Happens Stays made =
    Asks request now ((user_behaviour c.user).requested request now t.now) Happens Stays made
AsksAt c (station.Network at) request now t b Happens Stays made =
    Asks request now ((network_behaviour c.network).requested request now b.network) Happens Stays
    made

-- A move with this outcome, on a bus with this terminal at its index, or with none. After it the
-- code is `code`, and `acts` are the results.
abbrev pub Makes : SideBus → Configs → Effects → BusMove → ℕ → Option (SideView User) → Bus → Outcome
    → Type 0
Makes code c acts mv now None b made = (made ≡ outcome.Nothing) × BusStays code c acts b
Makes code c acts (move.Take at) now (Some t) b made =
    Takes now (line_to at t) (BusDoes code c acts at t b) (BusStays code c acts b) made
Makes code c acts (move.Lose at place) now (Some t) b made =
    Loses place (line_to at t) (BusDoes code c acts at t b) (BusStays code c acts b) made
Makes code c acts (move.Expire at) now (Some t) b made =
    Expires now (served_at at t b) (BusDoes code c acts at t b) (BusStays code c acts b) made
Makes code c acts (move.Ask at request) now (Some t) b made =
    AsksAt c at request now t b (BusDoes code c acts at t b) (BusStays code c acts b) made
