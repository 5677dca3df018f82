-- The TEIs of a bus: assignments in transit, the terminals that hold a TEI, and those that await
-- one.
use Rattle.std.specs.Prelude.{◌≡◌, ℕ, ◌==◌, ◌&&◌, ◌||◌, if◌then◌else◌, Bool, true, List, slice_get, Option, Some, None, Result, Ok, Err}
use Rattle.std.specs.List.{filter_map, list_any}
use Rattle.lapd_frame.specs.declared.Side.TheVariants as side
use Rattle.lapd_frame.specs.declared.frame_fault.FrameFault.{FrameFault}
use Rattle.lapd_frame.specs.Frame.{Fields}
use Rattle.lapd_frame.specs.Reading.{frame_at}
use Rattle.lapd_tei.specs.declared.fault.TeiFault.{TeiFault}
use Rattle.lapd_tei.specs.declared.kind.TeiKind.{TeiKind}
use Rattle.lapd_tei.specs.declared.kind.TeiKind.TheVariants as kind
use Rattle.lapd_tei.specs.declared.message.TeiMessage.{TeiMessage}
use Rattle.lapd_tei.specs.declared.phase.Phase.{Phase}
use Rattle.lapd_tei.specs.declared.phase.Phase.TheVariants.{Unassigned, Awaiting, Assigned}
use Rattle.lapd_tei.specs.Message.{message_at}
use Rattle.lapd_tei.specs.Terminal.{tei_of}
use Rattle.lapd_sides.specs.Management.{carries_message}
use Rattle.lapd_sides.specs.User.{User, has_tei}
use Rattle.lapd_side_events.specs.SideView.{SideView}
use Rattle.lapd_side_events.specs.Bus.{Bus}

-- ---- Assignments in transit.

-- an Identity assigned message: the reference that it answers, and the TEI
pub record Assignment : Type 0 where
  pub reference : ℕ
  pub tei : ℕ

abbrev pub assignment_by : TeiKind → ℕ → ℕ → Option Assignment
assignment_by kind.Assigned ri ai = Some (record { reference = ri; tei = ai })
assignment_by other ri ai = None

abbrev pub assignment_of : Result TeiMessage TeiFault → Option Assignment
assignment_of (Ok m) = assignment_by m.kind m.ri m.ai
assignment_of (Err fault) = None

abbrev pub assignment_in_frame : Result Fields FrameFault → Option Assignment
assignment_in_frame (Ok frame) =
    if carries_message frame then assignment_of (message_at frame.info) else None
assignment_in_frame (Err fault) = None

-- the assignment that octets of the network carry, if any
abbrev pub assignment_in : List ℕ → Option Assignment
assignment_in octets = assignment_in_frame (frame_at side.Network octets)

-- the assignments in transit to a terminal
abbrev pub assignments : SideView User → List Assignment
assignments t = filter_map assignment_in t.incoming

-- ---- A terminal and a TEI, or a reference.

abbrev pub holds : ℕ → SideView User → Bool
holds tei t = has_tei tei (tei_of t.now.management.terminal)

-- an assignment of the TEI is in transit to the terminal
abbrev pub is_of_tei : ℕ → Assignment → Bool
is_of_tei tei a = a.tei == tei

abbrev pub is_sent : ℕ → SideView User → Bool
is_sent tei t = list_any (is_of_tei tei) (assignments t)

-- the reference of the outstanding request
abbrev pub awaited : Phase → Option ℕ
awaited Unassigned = None
awaited (Awaiting purpose count ri) = Some ri
awaited (Assigned by tei) = None

abbrev pub awaits : ℕ → SideView User → Bool
awaits ri t = has_tei ri (awaited t.now.management.terminal)

-- an assignment with this reference is in transit to the terminal
abbrev pub has_reference : ℕ → Assignment → Bool
has_reference ri a = a.reference == ri

abbrev pub is_answered : ℕ → SideView User → Bool
is_answered ri t = list_any (has_reference ri) (assignments t)

-- ---- Who may hold a TEI.

-- the assignment is of the TEI, and answers the request that is outstanding in this phase
abbrev pub is_offer : ℕ → Phase → Assignment → Bool
is_offer tei phase a = is_of_tei tei a && has_tei a.reference (awaited phase)

-- The terminal holds the TEI, or such an assignment is in transit to it.
abbrev pub claims : ℕ → SideView User → Bool
claims tei t = holds tei t || list_any (is_offer tei t.now.management.terminal) (assignments t)

-- The terminal holds the TEI, or any assignment of it is in transit to the terminal.
abbrev pub is_taken : ℕ → SideView User → Bool
is_taken tei t = holds tei t || is_sent tei t

-- no two terminals hold this TEI
abbrev pub IsHeldOnce : ℕ → Bus → Type 0
IsHeldOnce tei b = (i j : ℕ) (t u : SideView User) → slice_get b.terminals i ≡ Some t
    → slice_get b.terminals j ≡ Some u → holds tei t ≡ true → holds tei u ≡ true → i ≡ j

-- no two terminals hold the same TEI
abbrev pub IsSingle : Bus → Type 0
IsSingle b = (tei : ℕ) → IsHeldOnce tei b
