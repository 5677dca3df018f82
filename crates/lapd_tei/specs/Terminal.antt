-- The TEI management of a terminal (Q.921 5.3.2 to 5.3.4): one equation for each row of its table.
use Rattle.std.specs.Prelude.{ℕ, ◌+◌, ◌<◌, ◌≤◌, true, ◌==◌, ◌&&◌, ◌||◌, not, nat_lt, nat_le, if◌then◌else◌, Bool, false, List, [], ◌∷◌, Option, Some, None}
use Rattle.lapd_timers.specs.declared.timer.Timer.TheVariants.{T202}
use Rattle.lapd_tei.specs.declared.kind.TeiKind.{TeiKind}
use Rattle.lapd_tei.specs.declared.kind.TeiKind.TheVariants as kind
use Rattle.lapd_tei.specs.declared.out.TeiOut.{TeiOut}
use Rattle.lapd_tei.specs.declared.out.TeiOut.TheVariants.{Send, Start, Stop, Got, Gone, Failed}
use Rattle.lapd_tei.specs.declared.phase.Phase.{Phase}
use Rattle.lapd_tei.specs.declared.phase.Phase.TheVariants.{Unassigned, Awaiting, Assigned}
use Rattle.lapd_tei.specs.declared.phase.Purpose.{Purpose}
use Rattle.lapd_tei.specs.declared.phase.Purpose.TheVariants.{Assignment, Establishment}
use Rattle.lapd_tei.specs.declared.terminal.TerminalEvent.{TerminalEvent}
use Rattle.lapd_tei.specs.declared.terminal.TerminalEvent.TheVariants as event
use Rattle.lapd_tei.specs.Message.{group_tei}
use Rattle.lapd_tei.specs.Out.{request, check_response}

-- the terminal after a step, and its outputs in order
pub record TerminalStep : Type 0 where
  pub now : Phase
  pub outs : List TeiOut

abbrev pub moves_to : Phase → List TeiOut → TerminalStep
moves_to phase outs = record { now = phase; outs = outs }

-- N202, the maximum number of requests for a TEI (5.9.4)
abbrev pub n202 : ℕ
n202 = 3

-- TEIs that the network assigns (3.3.4.2)
abbrev pub is_automatic : ℕ → Bool
is_automatic tei = nat_le 64 tei && nat_le tei 126

-- an action indicator names a terminal by its TEI or by the group TEI
abbrev pub names : ℕ → ℕ → Bool
names ai tei = (ai == tei) || (ai == group_tei)

-- whether the terminal obtained its TEI by this reference; a fixed TEI has none
abbrev pub is_got_by : Option ℕ → ℕ → Bool
is_got_by None ri = false
is_got_by (Some own) ri = own == ri

-- requests a TEI for the first time (5.3.2)
abbrev pub asks : Purpose → ℕ → TerminalStep
asks purpose ri = moves_to (Awaiting purpose 1 ri) (Send (request ri) ∷ Start T202 ∷ [])

-- T202 expires: requests the TEI again with a new reference, N202 times in all (5.3.2.1)
abbrev pub asks_again : Purpose → ℕ → ℕ → ℕ → TerminalStep
asks_again purpose count ri new =
    if nat_lt count n202 then moves_to (Awaiting purpose (count + 1) new)
    (Send (request new) ∷ Start T202 ∷ [])
    else moves_to Unassigned (Failed ∷ [])

-- While a TEI is awaited: an assignment with the outstanding reference is accepted (5.3.2). A
-- denial and all other messages are ignored.
abbrev pub awaiting_receives : Purpose → ℕ → ℕ → TeiKind → ℕ → ℕ → TerminalStep
awaiting_receives purpose count ri kind.Assigned its ai =
    if (its == ri) && is_automatic ai then moves_to (Assigned (Some ri) ai)
    (Stop T202 ∷ Got ai ∷ [])
    else moves_to (Awaiting purpose count ri) []
awaiting_receives purpose count ri other its ai = moves_to (Awaiting purpose count ri) []

-- With a TEI: removed if the TEI is assigned to another terminal (5.3.4), a check request is
-- answered (5.3.3), and Identity remove is obeyed (5.3.4).
abbrev pub assigned_receives : Option ℕ → ℕ → TeiKind → ℕ → ℕ → ℕ → TerminalStep
assigned_receives by tei kind.Assigned its ai new =
    if (ai == tei) && not (is_got_by by its) then moves_to Unassigned (Gone tei ∷ [])
    else moves_to (Assigned by tei) []
assigned_receives by tei kind.CheckRequest its ai new =
    if names ai tei then moves_to (Assigned by tei) (Send (check_response new tei) ∷ [])
    else moves_to (Assigned by tei) []
assigned_receives by tei kind.Remove its ai new =
    if names ai tei then moves_to Unassigned (Gone tei ∷ []) else moves_to (Assigned by tei) []
assigned_receives by tei other its ai new = moves_to (Assigned by tei) []

-- One step. The reference of each event is a fresh one, for the message that it may send.
abbrev pub terminal_step : Phase → TerminalEvent → TerminalStep
terminal_step Unassigned (event.Ask ri) = asks Assignment ri
terminal_step Unassigned (event.Want ri) = asks Establishment ri
terminal_step (Awaiting purpose count ri) (event.Want new) =
    moves_to (Awaiting Establishment count ri) []
terminal_step (Awaiting purpose count ri) (event.Heard m new) =
    awaiting_receives purpose count ri m.kind m.ri m.ai
terminal_step (Awaiting purpose count ri) (event.T202 new) = asks_again purpose count ri new
terminal_step (Assigned by tei) (event.Heard m new) = assigned_receives by tei m.kind m.ri m.ai new
terminal_step (Awaiting purpose count ri) event.Leave = moves_to Unassigned (Stop T202 ∷ [])
terminal_step (Assigned by tei) event.Leave = moves_to Unassigned (Gone tei ∷ [])
terminal_step phase other = moves_to phase []

-- Queries of a terminal: the number of its state, its TEI, the number of its
-- requests, and its last reference, outstanding or of the request that obtained its TEI.
abbrev pub state_number : Phase → ℕ
state_number Unassigned = 1
state_number (Awaiting Assignment count ri) = 2
state_number (Awaiting Establishment count ri) = 3
state_number (Assigned by tei) = 4

abbrev pub tei_of : Phase → Option ℕ
tei_of Unassigned = None
tei_of (Awaiting purpose count ri) = None
tei_of (Assigned by tei) = Some tei

abbrev pub count_of : Phase → ℕ
count_of Unassigned = 0
count_of (Awaiting purpose count ri) = count
count_of (Assigned by tei) = 0

abbrev pub reference_of : Phase → Option ℕ
reference_of Unassigned = None
reference_of (Awaiting purpose count ri) = Some ri
reference_of (Assigned by tei) = by

abbrev pub is_awaiting : Phase → Bool
is_awaiting Unassigned = false
is_awaiting (Awaiting purpose count ri) = true
is_awaiting (Assigned by tei) = false

-- a new terminal, with or without a fixed TEI
abbrev pub new_terminal : Option ℕ → Phase
new_terminal None = Unassigned
new_terminal (Some tei) = Assigned None tei

-- a TEI is 0 to 126, not the group TEI
abbrev pub IsTerminal : Phase → Type 0
IsTerminal Unassigned = Unit {0}
IsTerminal (Awaiting purpose count ri) = (1 ≤ count) × (count ≤ n202)
IsTerminal (Assigned by tei) = tei < 127
