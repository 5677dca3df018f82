-- Worked runs of a holding, which show that its premises are needed.
use Rattle.std.specs.Prelude.{◌≡◌, ℕ, List, [], ◌∷◌, ◌++◌, slice_get, Some, Vec}
use Rattle.std.specs.declared.alloc.Global.{Global}
use Rattle.lapd_timers.specs.declared.timer.Timer.TheVariants.{T200}
use Rattle.lapd_table.specs.declared.link_id.LinkId.{LinkId}
use Rattle.lapd_sides.specs.declared.request.Request.TheVariants as request
use Rattle.lapd_sides.specs.User.{User}
use Rattle.lapd_sides.specs.Worked as sides
use Rattle.lapd_two_side_laws.specs.Primitives.{given_to, known_of, IsReceived}
use Rattle.lapd_two_side_laws.specs.Schedule.{configs, call}
use Rattle.lapd_side_events.specs.SideView.{SideView, Take, Lose, Expire, Ask}
use Rattle.lapd_side_events.specs.Bus.{Bus, BusEvent, OfTerminal, OfNetwork, Join, Restart, from_now, bus_step, after_events}
use Rattle.lapd_bus_laws.specs.Holdings.{RequestsByItsOwn, LeavesAlone}
use Rattle.lapd_bus_laws.specs.Links.{Throughout, IsTimelyFor, AssignsOthers}
use Rattle.lapd_bus_laws.specs.Runs.{two_terminals, twins, first_alone, assigns_first}

-- The terminal at this index received messages of the network in order and once each, and all that
-- the network counts as acknowledged; the second is the same for the network.
abbrev pub IsReceivedByTerminal : LinkId → ℕ → Bus → Type 0
IsReceivedByTerminal id i b = (t : SideView User) → slice_get b.terminals i ≡ Some t
    → IsReceived (given_to id b.given) (known_of id b.delivered).acked
    (known_of id t.delivered).received

abbrev pub IsReceivedByNetwork : LinkId → ℕ → Bus → Type 0
IsReceivedByNetwork id i b = (t : SideView User) → slice_get b.terminals i ≡ Some t
    → IsReceived (given_to id t.given) (known_of id t.delivered).acked
    (known_of id b.delivered).received

-- ---- The premises but one.

abbrev pub KeepsAllButT200 : LinkId → ℕ → List BusEvent → Bus → Type 0
KeepsAllButT200 id i events b = Throughout configs (λ e b. LeavesAlone id.tei i e) events b
    × Throughout configs (AssignsOthers configs id.tei) events b
    × Throughout configs (RequestsByItsOwn configs) events b

abbrev pub KeepsAllButAssigning : LinkId → ℕ → List BusEvent → Bus → Type 0
KeepsAllButAssigning id i events b = Throughout configs (λ e b. LeavesAlone id.tei i e) events b
    × Throughout configs (IsTimelyFor id i) events b
    × Throughout configs (RequestsByItsOwn configs) events b

abbrev pub KeepsAllButRequesting : LinkId → ℕ → List BusEvent → Bus → Type 0
KeepsAllButRequesting id i events b = Throughout configs (λ e b. LeavesAlone id.tei i e) events b
    × Throughout configs (IsTimelyFor id i) events b
    × Throughout configs (AssignsOthers configs id.tei) events b

abbrev pub KeepsAllButLeaving : LinkId → ℕ → List BusEvent → Bus → Type 0
KeepsAllButLeaving id i events b = Throughout configs (IsTimelyFor id i) events b
    × Throughout configs (AssignsOthers configs id.tei) events b
    × Throughout configs (RequestsByItsOwn configs) events b

-- ---- T200 expires too early.

-- The first terminal has requested a TEI, and the network assigns it.
abbrev pub first_asks : List BusEvent
first_asks = OfTerminal 0 (Ask request.AskTei 0) ∷ []

abbrev pub from_first : Bus
from_first =
    from_now (bus_step configs assigns_first (after_events configs first_asks two_terminals))

-- T200 of the terminal expires while the answer to its SABME is in transit. The second SABME starts
-- another establishment at the network, and the terminal takes the first establishment's message
-- for the second's.
abbrev pub hasty : Vec ℕ Global → Vec ℕ Global → List BusEvent
hasty first second = OfTerminal 0 (Take 0) ∷ OfTerminal 0 (Ask (request.Establish call) 0)
    ∷ OfNetwork 0 (Take 0) ∷ OfNetwork 0 (Ask (request.Give call first) 0)
    ∷ OfTerminal 0 (Expire T200 (Some call) 1000) ∷ OfNetwork 0 (Take 1000)
    ∷ OfTerminal 0 (Take 1000) ∷ OfNetwork 0 (Ask (request.Give call second) 1000)
    ∷ OfTerminal 0 (Take 1000) ∷ OfNetwork 0 (Take 1000) ∷ []

-- ---- The TEI is assigned again.

-- The first message is lost, the TEI is removed, and the terminal obtains it again. The second
-- message is acknowledged, and counts as the first.
abbrev pub regained : Vec ℕ Global → Vec ℕ Global → List BusEvent
regained first second = OfTerminal 0 (Take 0) ∷ OfTerminal 0 (Ask (request.Establish call) 0)
    ∷ OfNetwork 0 (Take 0) ∷ OfTerminal 0 (Take 0)
    ∷ OfTerminal 0 (Ask (request.Give call first) 0) ∷ OfNetwork 0 (Lose 0)
    ∷ OfNetwork 0 (Ask (request.Remove 64) 0) ∷ OfTerminal 0 (Take 0) ∷ OfTerminal 0 (Take 0)
    ∷ OfTerminal 0 (Ask request.AskTei 0) ∷ OfNetwork 0 (Take 0) ∷ OfTerminal 0 (Take 0)
    ∷ OfTerminal 0 (Ask (request.Establish call) 0) ∷ OfNetwork 0 (Take 0)
    ∷ OfTerminal 0 (Take 0) ∷ OfTerminal 0 (Ask (request.Give call second) 0)
    ∷ OfNetwork 0 (Take 0) ∷ OfTerminal 0 (Take 0) ∷ []

-- ---- Octets of the link are in transit to the network.

-- The first terminal sends a SABME, and its TEI is removed. The second requests a TEI, and the
-- network assigns the same.
abbrev pub leaves_sabme : List BusEvent
leaves_sabme = first_alone ++ OfTerminal 0 (Ask (request.Establish call) 0)
    ∷ OfNetwork 0 (Ask (request.Remove 64) 0) ∷ OfTerminal 0 (Take 0)
    ∷ OfTerminal 1 (Take 0) ∷ OfTerminal 1 (Take 0) ∷ OfTerminal 1 (Ask request.AskTei 0) ∷ []

abbrev pub assigns_second : BusEvent
assigns_second = OfNetwork 1 (Take 0)

abbrev pub with_old_sabme : Bus
with_old_sabme = after_events configs leaves_sabme two_terminals

-- The network answers the old SABME, and the second terminal receives a UA that it did not request.
abbrev pub answers_old : List BusEvent
answers_old = OfTerminal 1 (Take 0) ∷ OfNetwork 0 (Take 0) ∷ OfTerminal 1 (Take 0) ∷ []

-- ---- A terminal requests by a reference of which an assignment is in transit.

abbrev pub from_twins : Bus
from_twins = from_now (bus_step configs assigns_first (after_events configs first_asks twins))

-- The second terminal takes the same assignment later, and the answer to the first one's SABME.
abbrev pub taken_twice : List BusEvent
taken_twice = OfTerminal 0 (Take 0) ∷ OfTerminal 1 (Ask request.AskTei 0) ∷ OfTerminal 1 (Take 0)
    ∷ OfTerminal 0 (Ask (request.Establish call) 0) ∷ OfNetwork 0 (Take 0)
    ∷ OfTerminal 1 (Take 0) ∷ []

-- ---- A terminal joins, or the network restarts.

abbrev pub with_fixed : ℕ → BusEvent
with_fixed i = Join i (record { fixed = Some 64; random = sides.random })

-- Another terminal joins with the TEI, and receives the answer to the first one's SABME.
abbrev pub joined : List BusEvent
joined = OfTerminal 0 (Take 0) ∷ OfTerminal 1 (Take 0) ∷ with_fixed 1
    ∷ OfTerminal 0 (Ask (request.Establish call) 0) ∷ OfNetwork 0 (Take 0)
    ∷ OfTerminal 1 (Take 0) ∷ []

-- The terminal is replaced after its first message is lost. The second message is acknowledged, and
-- counts as the first.
abbrev pub replaced : Vec ℕ Global → Vec ℕ Global → List BusEvent
replaced first second = OfTerminal 0 (Take 0) ∷ OfTerminal 0 (Ask (request.Establish call) 0)
    ∷ OfNetwork 0 (Take 0) ∷ OfTerminal 0 (Take 0)
    ∷ OfTerminal 0 (Ask (request.Give call first) 0) ∷ OfNetwork 0 (Lose 0) ∷ with_fixed 0
    ∷ OfTerminal 0 (Ask (request.Establish call) 0) ∷ OfNetwork 0 (Take 0)
    ∷ OfTerminal 0 (Take 0) ∷ OfTerminal 0 (Ask (request.Give call second) 0)
    ∷ OfNetwork 0 (Take 0) ∷ OfTerminal 0 (Take 0) ∷ []

-- The same of the network, which restarts with the TEI after its first message is lost.
abbrev pub restarted : Vec ℕ Global → Vec ℕ Global → List BusEvent
restarted first second = OfTerminal 0 (Take 0) ∷ OfTerminal 0 (Ask (request.Establish call) 0)
    ∷ OfNetwork 0 (Take 0) ∷ OfTerminal 0 (Take 0)
    ∷ OfNetwork 0 (Ask (request.Give call first) 0) ∷ OfTerminal 0 (Lose 0)
    ∷ Restart (64 ∷ []) ∷ OfNetwork 0 (Ask (request.Establish call) 0)
    ∷ OfTerminal 0 (Take 0) ∷ OfNetwork 0 (Take 0)
    ∷ OfNetwork 0 (Ask (request.Give call second) 0) ∷ OfTerminal 0 (Take 0)
    ∷ OfNetwork 0 (Take 0) ∷ []
