-- Worked runs of a bus with two terminals. They show that the premises can be met, and that each is
-- needed.
use Rattle.std.specs.Prelude.{ℕ, List, [], ◌∷◌, ◌++◌, Some, None, Vec}
use Rattle.std.specs.declared.alloc.Global.{Global}
use Rattle.rand_pcg.specs.Lcg.{Lcg}
use Rattle.lapd_frame.specs.declared.Sapi.TheVariants.{Call}
use Rattle.lapd_table.specs.declared.link_id.LinkId.{LinkId}
use Rattle.lapd_sides_links.specs.Links.{of_sapi}
use Rattle.lapd_sides.specs.declared.request.Request.TheVariants as request
use Rattle.lapd_sides.specs.Worked as sides
use Rattle.lapd_two_side_laws.specs.Schedule.{configs, call}
use Rattle.lapd_side_events.specs.SideView.{Take, Lose, Ask}
use Rattle.lapd_side_events.specs.Bus.{Bus, BusEvent, OfTerminal, OfNetwork, Join, NewTerminal, new_bus, from_now, bus_step, after_events}
use Rattle.lapd_bus_laws.specs.Holdings.{AssignsFree, RequestsByItsOwn, JoinsWithFree, IsOfBus}
use Rattle.lapd_bus_laws.specs.Links.{Throughout}

-- two terminals without TEIs, whose references differ, and a network that knows no TEI
abbrev pub waiting_terminal : Lcg → NewTerminal
waiting_terminal random = record { fixed = None; random = random }

abbrev pub other_random : Lcg
other_random = sides.after 8 sides.random

abbrev pub two_terminals : Bus
two_terminals = new_bus configs [] (waiting_terminal sides.random
    ∷ waiting_terminal other_random ∷ [])

-- call control of the second terminal
abbrev pub second_call : LinkId
second_call = of_sapi Call 65

-- ---- Two telephones come up and talk.

-- Layer 3 of both requests the link of call control, and both terminals request a TEI.
abbrev pub both_request : List BusEvent
both_request = OfTerminal 0 (Ask (request.Establish call) 0)
    ∷ OfTerminal 1 (Ask (request.Establish second_call) 0) ∷ []

-- The network assigns TEI 64 to the first terminal, on both lines.
abbrev pub assigns_first : BusEvent
assigns_first = OfNetwork 0 (Take 0)

abbrev pub requested_bus : Bus
requested_bus = after_events configs both_request two_terminals

abbrev pub from_assignment : Bus
from_assignment = from_now (bus_step configs assigns_first requested_bus)

-- Both take the assignment, and the first terminal obtains the TEI and sends a SABME. The network
-- assigns TEI 65 to the second terminal, which obtains it and sends a SABME, and answers both.
abbrev pub both_come_up : List BusEvent
both_come_up = OfTerminal 0 (Take 0) ∷ OfTerminal 1 (Take 0) ∷ OfNetwork 1 (Take 0)
    ∷ OfTerminal 1 (Take 0) ∷ OfNetwork 0 (Take 0) ∷ OfNetwork 1 (Take 0)
    ∷ OfTerminal 0 (Take 0) ∷ OfTerminal 0 (Take 0) ∷ OfTerminal 1 (Take 0)
    ∷ OfTerminal 1 (Take 0) ∷ []

-- The first terminal submits one message, and the second another one. The network receives both and
-- acknowledges them, and each terminal takes what is on its line. Then another terminal, with the
-- fixed TEI 5, replaces the second one.
abbrev pub both_talk : Vec ℕ Global → Vec ℕ Global → List BusEvent
both_talk message other = OfTerminal 0 (Ask (request.Give call message) 0)
    ∷ OfTerminal 1 (Ask (request.Give second_call other) 0)
    ∷ OfNetwork 0 (Take 0) ∷ OfNetwork 1 (Take 0) ∷ OfTerminal 0 (Take 0) ∷ OfTerminal 0 (Take 0)
    ∷ OfTerminal 1 (Take 0) ∷ OfTerminal 1 (Take 0)
    ∷ Join 1 (record { fixed = Some 5; random = other_random }) ∷ []

abbrev pub talking : Vec ℕ Global → Vec ℕ Global → List BusEvent
talking message other = both_come_up ++ both_talk message other

-- ---- One is removed, and another has its TEI.

abbrev pub first_obtains : List BusEvent
first_obtains = OfTerminal 0 (Ask request.AskTei 0) ∷ OfNetwork 0 (Take 0) ∷ OfTerminal 0 (Take 0)
    ∷ []

-- the second terminal takes the assignment too, and ignores it
abbrev pub first_alone : List BusEvent
first_alone = first_obtains ++ OfTerminal 1 (Take 0) ∷ []

abbrev pub second_requests : List BusEvent
second_requests = OfTerminal 1 (Ask request.AskTei 0) ∷ OfNetwork 1 (Take 0) ∷ []

-- two removals, and its assignment
abbrev pub second_takes : List BusEvent
second_takes = OfTerminal 1 (Take 0) ∷ OfTerminal 1 (Take 0) ∷ OfTerminal 1 (Take 0) ∷ []

abbrev pub moved : List BusEvent
moved = first_alone ++ OfNetwork 0 (Ask (request.Remove 64) 0) ∷ OfTerminal 0 (Take 0)
    ∷ second_requests ++ second_takes

-- ---- Fixed TEIs.

abbrev pub with_fixed_tei : ℕ → Lcg → NewTerminal
with_fixed_tei tei random = record { fixed = Some tei; random = random }

-- two terminals with the fixed TEIs 0 and 1, which the network knows
abbrev pub two_fixed : Bus
two_fixed = new_bus configs (0 ∷ 1 ∷ []) (with_fixed_tei 0 sides.random
    ∷ with_fixed_tei 1 other_random ∷ [])

abbrev pub fixed_call : LinkId
fixed_call = of_sapi Call 0

-- The first terminal establishes its link and submits a message, which is acknowledged.
abbrev pub fixed_talks : Vec ℕ Global → List BusEvent
fixed_talks message = OfTerminal 0 (Ask (request.Establish fixed_call) 0) ∷ OfNetwork 0 (Take 0)
    ∷ OfTerminal 0 (Take 0) ∷ OfTerminal 0 (Ask (request.Give fixed_call message) 0)
    ∷ OfNetwork 0 (Take 0) ∷ OfTerminal 0 (Take 0) ∷ []

-- ---- Each premise is needed.

-- all premises but that on assignments, on references or on joining
abbrev pub KeepsAllButAssignment : List BusEvent → Bus → Type 0
KeepsAllButAssignment events b = Throughout configs (λ e b. IsOfBus e) events b
    × Throughout configs (RequestsByItsOwn configs) events b
    × Throughout configs JoinsWithFree events b

abbrev pub KeepsAllButReference : List BusEvent → Bus → Type 0
KeepsAllButReference events b = Throughout configs (λ e b. IsOfBus e) events b
    × Throughout configs (AssignsFree configs) events b
    × Throughout configs JoinsWithFree events b

abbrev pub KeepsAllButJoining : List BusEvent → Bus → Type 0
KeepsAllButJoining events b = Throughout configs (λ e b. IsOfBus e) events b
    × Throughout configs (AssignsFree configs) events b
    × Throughout configs (RequestsByItsOwn configs) events b

-- Both Identity removes are lost at the first terminal, which still holds the TEI.
abbrev pub assigned_while_held : List BusEvent
assigned_while_held = first_alone ++ OfNetwork 0 (Ask (request.Remove 64) 0)
    ∷ OfTerminal 0 (Lose 0) ∷ OfTerminal 0 (Lose 0) ∷ second_requests ++ second_takes

-- They are lost there before the first terminal takes its assignment.
abbrev pub assigned_in_transit : List BusEvent
assigned_in_transit = OfTerminal 0 (Ask request.AskTei 0) ∷ OfNetwork 0 (Take 0)
    ∷ OfNetwork 0 (Ask (request.Remove 64) 0) ∷ OfTerminal 0 (Lose 1) ∷ OfTerminal 0 (Lose 1)
    ∷ second_requests ++ OfTerminal 0 (Take 0) ∷ OfTerminal 1 (Take 0) ∷ second_takes

-- two terminals whose references are the same
abbrev pub twins : Bus
twins = new_bus configs [] (waiting_terminal sides.random
    ∷ waiting_terminal sides.random ∷ [])

-- Both request by the same reference, and both take the assignment.
abbrev pub same_reference : List BusEvent
same_reference = OfTerminal 0 (Ask request.AskTei 0) ∷ OfTerminal 1 (Ask request.AskTei 0)
    ∷ OfNetwork 0 (Take 0) ∷ OfTerminal 0 (Take 0) ∷ OfTerminal 1 (Take 0) ∷ []

-- The second requests by this reference after the first has its TEI, with the assignment still in
-- transit.
abbrev pub answered_before : List BusEvent
answered_before = first_obtains ++ OfTerminal 1 (Ask request.AskTei 0) ∷ OfTerminal 1 (Take 0) ∷ []

-- A terminal joins with a fixed TEI that the first terminal holds.
abbrev pub joins_with_held : List BusEvent
joins_with_held = first_obtains
    ++ Join 1 (record { fixed = Some 64; random = other_random }) ∷ []

-- two terminals with the same fixed TEI
abbrev pub same_fixed : Bus
same_fixed = new_bus configs [] (with_fixed_tei 5 sides.random ∷ with_fixed_tei 5 other_random ∷ [])
