-- How a bus in code represents that of the definition. Code keeps no record of what its sides
-- delivered and accepted, so it represents a bus with any such record.
use Rattle.std.specs.Prelude.{◌≡◌, ℕ, List, [], ◌∷◌, ◌++◌, slice_get, Some}
use Rattle.lapd_sides_links.specs.declared.config.Config.{Config}
use Rattle.lapd_sides.specs.ShowsNetwork.{ShowNetwork}
use Rattle.lapd_sides.specs.ShowsUser.{ShowUser, UserSide}
use Rattle.lapd_sides.specs.User.{User, seeded}
use Rattle.lapd_side_events.specs.Interface.{Configs}
use Rattle.lapd_side_events.specs.SideView.{SideView}
use Rattle.lapd_side_events.specs.Bus as bus
use Rattle.lapd_side_events.specs.Bus.{Bus, connected}
use Rattle.lapd_bus.specs.declared.bus_move.NewTerminal.{NewTerminal}
use Rattle.lapd_bus.specs.declared.side_bus.SideBus.{SideBus}
use Rattle.lapd_bus.specs.declared.terminal.Terminal.{Terminal}

-- a terminal, and the octets in transit to it and from it
pub record ShowTerminal (code : Terminal) (config : Config) (t : SideView User) : Type 0 where
  pub side : ShowUser code.side config t.now
  pub incoming : code.incoming ≡ t.incoming
  pub outgoing : code.outgoing ≡ t.outgoing

-- frames of the network are now in transit to the terminal too
abbrev pub reached_by : List (List ℕ) → Terminal → Terminal
reached_by frames code = record code { incoming = code.incoming ++ frames }

-- the terminals, in the same order
abbrev pub ShowTerminals : List Terminal → Config → List (SideView User) → Type 0
ShowTerminals [] config [] = Unit {0}
ShowTerminals (code ∷ codes) config (t ∷ ts) =
    ShowTerminal code config t × ShowTerminals codes config ts
ShowTerminals codes config ts = ⊥

pub record ShowBus (code : SideBus) (c : Configs) (b : Bus) : Type 0 where
  pub network_config : code.network_config ≡ c.network
  pub terminal_config : code.terminal_config ≡ c.user
  pub network : ShowNetwork code.network c.network b.network
  pub terminals : ShowTerminals code.terminals.items c.user b.terminals

-- ---- Terminals that are connected.

-- a new terminal of the definition
abbrev pub joining : NewTerminal → bus.NewTerminal
joining new = record { fixed = new.fixed; random = seeded new.seed }

-- the bus with one more terminal, without octets in transit
abbrev pub with_connected : Configs → bus.NewTerminal → Bus → Bus
with_connected c new b = record b { terminals = b.terminals ++ connected c new ∷ [] }

-- a side in code is the terminal at this index
pub record IsTerminalOf (code : UserSide) (c : Configs) (at : ℕ) (b : Bus) : Type 0 where
  pub terminal : SideView User
  pub there : slice_get b.terminals at ≡ Some terminal
  pub shown : ShowUser code c.user terminal.now
