-- Worked runs of a bus, which test the definitions.
use Rattle.std.specs.Prelude.{ℕ, zero, suc, List, [], ◌∷◌, Some, Result, Ok, Err}
use Rattle.lapd_tei.specs.declared.out.TeiOut.{TeiOut}
use Rattle.lapd_tei.specs.declared.bus_move.BusMove.{BusMove}
use Rattle.lapd_tei.specs.declared.bus_move.BusMove.TheVariants.{Ask, T202, Hear, Drop, HearUp, Check, Remove, T201, Leave}
use Rattle.lapd_tei.specs.declared.bus_move.BusFault.{BusFault}
use Rattle.lapd_tei.specs.declared.assigner.AssignerEvent.{AssignerEvent}
use Rattle.lapd_tei.specs.declared.assigner.AssignerEvent.TheVariants as event
use Rattle.lapd_tei.specs.Out.{check_response}
use Rattle.lapd_tei.specs.Assigner.{AssignerState, assigner_step}
use Rattle.lapd_tei.specs.Bus.{BusState, BusStep, bus_step, moved}
use Rattle.lapd_tei.specs.Service.{BusEvent, Move, Want, Join, Restart}

-- the outputs of a move, or why it is refused
abbrev pub given_by : Result BusStep BusFault → Result (List TeiOut) BusFault
given_by (Ok step) = Ok step.outs
given_by (Err fault) = Err fault

abbrev pub results : BusState → List BusMove → List (Result (List TeiOut) BusFault)
results b [] = []
results b (m ∷ ms) = given_by (bus_step b m) ∷ results (moved b m).now ms

-- two terminals request TEIs, and the second receives the assignment for the first too; then a
-- check of the first one's TEI frees it
abbrev pub two_ask : List BusMove
two_ask = Ask 0 0x1234 ∷ Ask 1 0x5678 ∷ HearUp 0 ∷ Hear 0 1 1 ∷ Hear 0 0 2 ∷ Hear 0 0 3 ∷ HearUp 0
    ∷ Hear 1 1 4 ∷ []

abbrev pub vain_check : List BusMove
vain_check = Check 64 ∷ T201 ∷ T201 ∷ []

-- a terminal requests three times, and fails
abbrev pub three_times : List BusMove
three_times = Ask 0 1 ∷ T202 0 2 ∷ T202 0 3 ∷ T202 0 4 ∷ T202 0 5 ∷ []

-- this many requests with one reference, each served
abbrev pub served : ℕ → List BusMove
served zero = []
served (suc n) = Ask 0 1 ∷ HearUp 0 ∷ Leave 0 ∷ served n

-- the outputs of an assigner for each of these events
abbrev pub answers : AssignerState → List AssignerEvent → List (List TeiOut)
answers a [] = []
answers a (e ∷ es) = (assigner_step a e).outs ∷ answers (assigner_step a e).now es

-- a check of TEI 64 with this many responses before T201 expires
abbrev pub responded : ℕ → List AssignerEvent
responded zero = event.T201 ∷ []
responded (suc n) = event.Heard (check_response 0x5678 64) ∷ responded n

abbrev pub check_with : ℕ → List AssignerEvent
check_with n = event.Check 64 ∷ responded n

-- during a check of TEI 65, TEI 64 and then 65 are removed; T201 expires all the same
abbrev pub removed_under_check : List AssignerEvent
removed_under_check = event.Check 65 ∷ event.Remove 64 ∷ event.Remove 65 ∷ event.T201 ∷ []

-- ---- Runs that test the premises of the law.

-- a TEI is obtained, released, freed by a check, and obtained by another terminal
abbrev pub got_by_another : List BusMove
got_by_another = Ask 0 1 ∷ HearUp 0 ∷ Hear 0 0 2 ∷ Leave 0 ∷ Drop 0 ∷ Check 64 ∷ T201 ∷ T201
    ∷ Ask 1 3 ∷ HearUp 0 ∷ Hear 2 1 4 ∷ []

-- two terminals request by one reference
abbrev pub one_reference : List BusMove
one_reference = Ask 0 7 ∷ Ask 1 7 ∷ HearUp 0 ∷ Hear 0 0 1 ∷ Hear 0 1 2 ∷ []

-- a check frees a TEI that a terminal holds, as the terminal does not receive the check request
abbrev pub freed_while_held : List BusMove
freed_while_held = Ask 0 1 ∷ HearUp 0 ∷ Hear 0 0 2 ∷ Check 64 ∷ T201 ∷ T201 ∷ Ask 1 3 ∷ HearUp 0
    ∷ Hear 3 1 4 ∷ []

-- a check frees a TEI whose assignment is still in transit
abbrev pub freed_on_its_way : List BusMove
freed_on_its_way = Ask 0 1 ∷ HearUp 0 ∷ Check 64 ∷ T201 ∷ T201 ∷ Ask 1 2 ∷ HearUp 0 ∷ Hear 0 0 3
    ∷ Hear 3 1 4 ∷ []

-- ---- Runs of a bus in service, of two terminals.

-- A terminal joins at index 1 with a fixed TEI that the network side knows. The terminal at index 0
-- requests a link and obtains a TEI; the network side restarts, knowing both TEIs. Terminal 0
-- leaves, and a check frees its TEI. Terminal 1 releases its own, and requests by the reference
-- that terminal 0 had.
abbrev pub reference_again : List BusEvent
reference_again = Join 1 (Some 64) ∷ Want 0 7 ∷ Move (HearUp 0) ∷ Move (Hear 0 0 1)
    ∷ Restart (64 ∷ 65 ∷ []) ∷ Move (Leave 0) ∷ Move (Drop 0) ∷ Move (Check 65) ∷ Move T201
    ∷ Move T201 ∷ Move (Leave 1) ∷ Move (Ask 1 7) ∷ Move (HearUp 0) ∷ Move (Hear 2 1 2) ∷ []

-- A reference is used again while a request with it is in transit, and then while assignments with
-- it are. Terminal 0 requests by 7, then by 8; terminal 1 requests by 7; both obtain a TEI. Both
-- release it; terminal 0 requests by 7, and accepts the assignment that was sent for terminal 1.
abbrev pub reference_on_its_way : List BusEvent
reference_on_its_way = Move (Ask 0 7) ∷ Move (T202 0 8) ∷ Want 1 7 ∷ Move (HearUp 0)
    ∷ Move (HearUp 0) ∷ Move (HearUp 0) ∷ Move (Hear 1 0 1) ∷ Move (Hear 0 1 2) ∷ Move (Leave 0)
    ∷ Move (Leave 1) ∷ Move (Ask 0 7) ∷ Move (Hear 2 0 3) ∷ []

-- the first terminal obtains TEI 64 by the reference 1, and its assignment is removed
abbrev pub first_gets : List BusEvent → List BusEvent
first_gets events = Move (Ask 0 1) ∷ Move (HearUp 0) ∷ Move (Hear 0 0 2) ∷ Move (Drop 0) ∷ events

-- the second requests by the reference 3, and receives the assignment that is sent for it
abbrev pub second_gets : ℕ → List BusEvent → List BusEvent
second_gets i events = Move (Ask 1 3) ∷ Move (HearUp 0) ∷ Move (Hear i 1 4) ∷ events

-- the second requests by the outstanding reference of the first
abbrev pub reference_outstanding : List BusEvent
reference_outstanding = Move (Ask 0 1) ∷ Move (Ask 1 1) ∷ Move (HearUp 0) ∷ Move (Hear 0 0 2)
    ∷ Move (Hear 0 1 3) ∷ []

-- the second requests by the reference that the first obtained its TEI by
abbrev pub reference_got_by : List BusEvent
reference_got_by = Move (Ask 0 1) ∷ Move (HearUp 0) ∷ Move (Hear 0 0 2) ∷ Move (Ask 1 1)
    ∷ Move (Hear 0 1 3) ∷ []

-- a check frees the TEI that the first holds, as it does not receive the check request
abbrev pub checked_while_held : List BusEvent
checked_while_held = first_gets (Move (Check 64) ∷ Move T201 ∷ Move T201 ∷ second_gets 2 [])

-- a check frees a TEI whose assignment is in transit
abbrev pub checked_on_its_way : List BusEvent
checked_on_its_way = Move (Ask 0 1) ∷ Move (HearUp 0) ∷ Move (Check 64) ∷ Move T201 ∷ Move T201
    ∷ second_gets 3 (Move (Hear 0 0 2) ∷ [])

-- a removal frees the TEI that the first holds, as it receives neither Identity remove
abbrev pub removed_while_held : List BusEvent
removed_while_held = first_gets (Move (Remove 64) ∷ second_gets 2 [])

-- the network side restarts, and does not know the TEI that the first holds
abbrev pub restarted_while_held : List BusEvent
restarted_while_held = first_gets (Restart [] ∷ second_gets 0 [])

-- the network side restarts, and does not know a TEI whose assignment is in transit
abbrev pub restarted_on_its_way : List BusEvent
restarted_on_its_way = Move (Ask 0 1) ∷ Move (HearUp 0) ∷ Restart []
    ∷ second_gets 1 (Move (Hear 0 0 2) ∷ [])

-- a terminal joins with a fixed TEI that the first holds
abbrev pub joined_while_held : List BusEvent
joined_while_held = first_gets (Join 1 (Some 64) ∷ [])

-- a terminal joins with a fixed TEI whose assignment is in transit
abbrev pub joined_on_its_way : List BusEvent
joined_on_its_way = Move (Ask 0 1) ∷ Move (HearUp 0) ∷ Join 1 (Some 64) ∷ Move (Hear 0 0 2) ∷ []

-- a terminal joins with a fixed TEI that the network side does not know
abbrev pub joined_unknown : List BusEvent
joined_unknown = Join 1 (Some 64) ∷ first_gets []
