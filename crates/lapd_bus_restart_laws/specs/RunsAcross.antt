-- Worked runs of a bus with restarts. They show that the premises can be met, and that those on
-- restarts are needed.
use Rattle.std.specs.Prelude.{ℕ, List, [], ◌∷◌, ◌++◌, Vec}
use Rattle.std.specs.declared.alloc.Global.{Global}
use Rattle.lapd_table.specs.declared.link_id.LinkId.{LinkId}
use Rattle.lapd_sides.specs.declared.request.Request.TheVariants as request
use Rattle.lapd_sides.specs.Worked as sides
use Rattle.lapd_two_side_laws.specs.Schedule.{configs}
use Rattle.lapd_side_events.specs.SideView.{Take, Lose, Ask}
use Rattle.lapd_side_events.specs.Bus.{Bus, BusEvent, OfTerminal, OfNetwork, Join, Restart, new_bus, from_now}
use Rattle.lapd_bus_laws.specs.Holdings.{IsOfBus, RequestsByItsOwn}
use Rattle.lapd_bus_laws.specs.Links.{IsTimelyFor, AssignsOthers}
use Rattle.lapd_bus_laws.specs.Runs.{other_random, with_fixed_tei, fixed_call}
use Rattle.lapd_bus_restart_laws.specs.BusAcross.{ThroughoutAcross}
use Rattle.lapd_bus_restart_laws.specs.HoldingsAcross.{OthersJoinWithout}

-- the first terminal restarts with its TEI
abbrev pub first_restarts : BusEvent
first_restarts = Join 0 (with_fixed_tei 0 sides.random)

-- the second terminal restarts with another TEI
abbrev pub second_restarts : BusEvent
second_restarts = Join 1 (with_fixed_tei 5 other_random)

-- layer 3 of the first terminal requests the link, and the network answers
abbrev pub establishing : List BusEvent
establishing = OfTerminal 0 (Ask (request.Establish fixed_call) 0) ∷ OfNetwork 0 (Take 0)
    ∷ OfTerminal 0 (Take 0) ∷ []

-- The first terminal restarts while a message is in transit in each direction, and the second one
-- restarts too. The network receives the first terminal's message, and this terminal ignores the
-- network's and the RR. It establishes again and sends a second message, which is acknowledged.
-- Then the network restarts while a third message is in transit to it, and ignores it. The first
-- terminal establishes again.
abbrev pub across_both : Vec ℕ Global → Vec ℕ Global → Vec ℕ Global → Vec ℕ Global → List BusEvent
across_both first answer second third =
    establishing ++ OfTerminal 0 (Ask (request.Give fixed_call first) 0)
    ∷ OfNetwork 0 (Ask (request.Give fixed_call answer) 0) ∷ first_restarts ∷ second_restarts
    ∷ OfNetwork 0 (Take 0) ∷ OfTerminal 0 (Take 0) ∷ OfTerminal 0 (Take 0) ∷ establishing
    ++ OfTerminal 0 (Ask (request.Give fixed_call second) 0) ∷ OfNetwork 0 (Take 0)
    ∷ OfTerminal 0 (Take 0) ∷ OfTerminal 0 (Ask (request.Give fixed_call third) 0)
    ∷ Restart (0 ∷ 1 ∷ []) ∷ OfNetwork 0 (Take 0) ∷ establishing

-- ---- The premises on restarts are needed.

-- one terminal with the fixed TEI 0, which the network knows
abbrev pub alone : Bus
alone = from_now (new_bus configs (0 ∷ []) (with_fixed_tei 0 sides.random ∷ []))

-- all premises of a holding but those on restarts
abbrev pub KeepsAllButRestarting : LinkId → ℕ → List BusEvent → Bus → Type 0
KeepsAllButRestarting id i events b = ThroughoutAcross configs (λ e b. IsOfBus e) events b
    × ThroughoutAcross configs (λ e b. OthersJoinWithout id.tei i e) events b
    × ThroughoutAcross configs (IsTimelyFor id i) events b
    × ThroughoutAcross configs (AssignsOthers configs id.tei) events b
    × ThroughoutAcross configs (RequestsByItsOwn configs) events b

-- The network requests the link, and restarts while its SABME is in transit. The terminal answers.
abbrev pub command_outlasts : List BusEvent
command_outlasts = OfNetwork 0 (Ask (request.Establish fixed_call) 0) ∷ Restart (0 ∷ [])
    ∷ OfTerminal 0 (Take 0) ∷ OfNetwork 0 (Take 0) ∷ []

-- The first message is lost. The terminal gives up its TEI, and restarts with it. The second
-- message is acknowledged, and counts as the first.
abbrev pub comes_back : Vec ℕ Global → Vec ℕ Global → List BusEvent
comes_back first second = establishing ++ OfTerminal 0 (Ask (request.Give fixed_call first) 0)
    ∷ OfNetwork 0 (Lose 0) ∷ OfTerminal 0 (Ask (request.Remove 0) 0) ∷ first_restarts
    ∷ establishing ++ OfTerminal 0 (Ask (request.Give fixed_call second) 0)
    ∷ OfNetwork 0 (Take 0) ∷ OfTerminal 0 (Take 0) ∷ []
