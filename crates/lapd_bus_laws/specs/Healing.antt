-- A check of a TEI heals it: whatever the bus holds when the check begins, at most one terminal
-- holds the TEI after it (Q.921 5.3.3), and later assignments keep this so.
use Rattle.std.specs.Prelude.{◌≡◌, ◌<◌, ℕ, ◌==◌, ◌&&◌, if◌then◌else◌, Bool, true, false, List, ◌∷◌, ◌++◌, slice_get, Option, Some, None, Result, Ok, Err}
use Rattle.std.specs.List.{filter_map, list_any}
use Rattle.lapd_frame.specs.declared.Sapi.TheVariants as sapi
use Rattle.lapd_frame.specs.declared.Side.{Side}
use Rattle.lapd_frame.specs.declared.Side.TheVariants as side
use Rattle.lapd_frame.specs.declared.frame_fault.FrameFault.{FrameFault}
use Rattle.lapd_frame.specs.Frame.{Fields}
use Rattle.lapd_frame.specs.Reading.{frame_at}
use Rattle.lapd_tei.specs.declared.fault.TeiFault.{TeiFault}
use Rattle.lapd_tei.specs.declared.kind.TeiKind.{TeiKind}
use Rattle.lapd_tei.specs.declared.kind.TeiKind.TheVariants as kind
use Rattle.lapd_tei.specs.declared.message.TeiMessage.{TeiMessage}
use Rattle.lapd_tei.specs.Assigner.{checked}
use Rattle.lapd_tei.specs.Message.{kind_number, message_at}
use Rattle.lapd_tei.specs.Terminal.{reference_of}
use Rattle.lapd_table.specs.declared.link_id.LinkId.{LinkId}
use Rattle.lapd_sides.specs.Management.{carries_message}
use Rattle.lapd_sides.specs.Network.{Network}
use Rattle.lapd_sides.specs.User.{User}
use Rattle.lapd_side_events.specs.Interface.{Configs}
use Rattle.lapd_side_events.specs.SideView.{SideView, SideEvent, Lose, Expire}
use Rattle.lapd_bus_laws.specs.Assignments.{holds, is_sent}
use Rattle.lapd_side_events.specs.Bus.{Bus, BusEvent, OfTerminal, OfNetwork, Restart, bus_step, after_events}
use Rattle.lapd_bus_laws.specs.Holdings.{IsOfBus, JoinsWithFree}

-- ---- TEI messages in transit.

abbrev pub message_if_any : Result TeiMessage TeiFault → Option TeiMessage
message_if_any (Ok m) = Some m
message_if_any (Err fault) = None

abbrev pub message_in_frame : Result Fields FrameFault → Option TeiMessage
message_in_frame (Ok frame) =
    if carries_message frame then message_if_any (message_at frame.info) else None
message_in_frame (Err fault) = None

-- the TEI message that octets of a side carry, if any
abbrev pub message_in : Side → List ℕ → Option TeiMessage
message_in from octets = message_in_frame (frame_at from octets)

-- the TEI messages in transit to a terminal, and from it
abbrev pub messages_to : SideView User → List TeiMessage
messages_to t = filter_map (message_in side.Network) t.incoming

abbrev pub messages_from : SideView User → List TeiMessage
messages_from t = filter_map (message_in side.User) t.outgoing

-- the message is of this kind and names this TEI
abbrev pub is_about : TeiKind → ℕ → TeiMessage → Bool
is_about kind tei m = (kind_number m.kind == kind_number kind) && (m.ai == tei)

-- such a message is in transit to the terminal, or from it
abbrev pub has_incoming : TeiKind → ℕ → SideView User → Bool
has_incoming kind tei t = list_any (is_about kind tei) (messages_to t)

abbrev pub has_outgoing : TeiKind → ℕ → SideView User → Bool
has_outgoing kind tei t = list_any (is_about kind tei) (messages_from t)

-- ---- The premises of one event.

-- The octets that are lost, if any, carry no message that names the TEI.
abbrev pub LosesNoMessage : ℕ → Side → SideEvent → List (List ℕ) → Type 0
LosesNoMessage tei from (Lose at) line = (octets : List ℕ) (m : TeiMessage)
    → slice_get line at ≡ Some octets → message_in from octets ≡ Some m → (m.ai == tei) ≡ false
LosesNoMessage tei from other line = Unit {0}

abbrev pub DeliversMessages : ℕ → BusEvent → Bus → Type 0
DeliversMessages tei (OfTerminal j event) b = (t : SideView User)
    → slice_get b.terminals j ≡ Some t → LosesNoMessage tei side.Network event t.incoming
DeliversMessages tei (OfNetwork j event) b = (t : SideView User)
    → slice_get b.terminals j ≡ Some t → LosesNoMessage tei side.User event t.outgoing
DeliversMessages tei other b = Unit {0}

-- No check request of the TEI is in transit to a terminal, and no response to the network.
pub record IsAnswered (tei : ℕ) (b : Bus) : Type 0 where
  pub requests : list_any (has_incoming kind.CheckRequest tei) b.terminals ≡ false
  pub responses : list_any (has_outgoing kind.CheckResponse tei) b.terminals ≡ false

-- While the network checks the TEI, T201 expires only after the request and all responses were
-- delivered.
abbrev pub WaitsForResponses : ℕ → SideEvent → Bus → Type 0
WaitsForResponses tei (Expire timer None now) b =
    checked b.network.management.check ≡ Some tei → IsAnswered tei b
WaitsForResponses tei other b = Unit {0}

-- While it checks the TEI, it does not restart.
abbrev pub CarriesCheckOn : ℕ → BusEvent → Bus → Type 0
CarriesCheckOn tei (OfNetwork j event) b = WaitsForResponses tei event b
CarriesCheckOn tei (Restart known) b = checked b.network.management.check ≡ Some tei → ⊥
CarriesCheckOn tei other b = Unit {0}

pub record Heals (tei : ℕ) (e : BusEvent) (b : Bus) : Type 0 where
  pub of_bus : IsOfBus e
  pub delivers : DeliversMessages tei e b
  pub check : CarriesCheckOn tei e b
  pub joins : JoinsWithFree e b

-- ---- A check, and what it leads to.

-- no link of the network has the address of TEI management
abbrev pub management_id : LinkId
management_id = record { sapi = sapi.Management; tei = 127 }

abbrev pub HasNoManagementLink : Network → Type 0
HasNoManagementLink s = s.served.links management_id ≡ None

-- the network begins a check of the TEI in this event
abbrev pub BeginsCheck : Configs → ℕ → BusEvent → Bus → Type 0
BeginsCheck c tei e b = (b.network.management.check ≡ None)
    × (checked (bus_step c e b).network.management.check ≡ Some tei)

-- The network does not check the TEI, and no Identity remove of it is in transit.
pub record IsCheckOver (tei : ℕ) (b : Bus) : Type 0 where
  pub ended : checked b.network.management.check ≡ Some tei → ⊥
  pub removals : list_any (has_incoming kind.Remove tei) b.terminals ≡ false

-- In these events a check of the TEI begins, and is over after some of them.
pub record IsChecked (c : Configs) (tei : ℕ) (events : List BusEvent) (b : Bus) : Type 0 where
  pub before : List BusEvent
  pub start : BusEvent
  pub during : List BusEvent
  pub later : List BusEvent
  pub parts : events ≡ before ++ (start ∷ (during ++ later))
  pub begins : BeginsCheck c tei start (after_events c before b)
  pub over : IsCheckOver tei (after_events c (before ++ (start ∷ during)) b)

-- no assignment of the TEI is in transit to a terminal
abbrev pub IsAtRest : ℕ → Bus → Type 0
IsAtRest tei b = list_any (is_sent tei) b.terminals ≡ false

-- no two terminals have the same last reference: of the outstanding request, or of the one that
-- obtained the TEI
abbrev pub ReferencesDiffer : Bus → Type 0
ReferencesDiffer b = (ri i j : ℕ) (t u : SideView User) → slice_get b.terminals i ≡ Some t
    → slice_get b.terminals j ≡ Some u → reference_of t.now.management.terminal ≡ Some ri
    → reference_of u.now.management.terminal ≡ Some ri → i ≡ j

-- each TEI that a terminal holds is below the group TEI
abbrev pub HoldTeis : Bus → Type 0
HoldTeis b = (tei k : ℕ) (t : SideView User) → slice_get b.terminals k ≡ Some t
    → holds tei t ≡ true → tei < 127
