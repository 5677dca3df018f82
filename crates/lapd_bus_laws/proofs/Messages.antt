-- Which octets of the network carry an assignment: the message of one, and no frame of a link.
use Rattle.std.proofs.Common.{◌≡◌, ℕ, ◌+◌, ◌*◌, ◌/◌, ◌%◌, ◌==◌, ◌&&◌, List, [], ◌∷◌, Bool, true, false, if◌then◌else◌, Option, Some, None, Result, Ok, Err, refl, ap, ◌∙◌, arith}
use Rattle.std.specs.List.{filter_map}
use Rattle.std.proofs.lemmas.Bool.Decides.{nat_tests}
use Rattle.lapd_frame.specs.declared.Sapi.{Sapi}
use Rattle.lapd_frame.specs.declared.Sapi.TheVariants as sapi
use Rattle.lapd_frame.specs.declared.Side.{Side}
use Rattle.lapd_frame.specs.declared.Side.TheVariants as side
use Rattle.lapd_frame.specs.declared.frame_fault.FrameFault.{FrameFault}
use Rattle.lapd_frame.specs.Frame.{Fields, spelling}
use Rattle.lapd_frame.specs.Reading.{frame_at}
use Rattle.lapd_frame.proofs.FrameAt.{frame_again}
use Rattle.lapd_tei.specs.declared.fault.TeiFault.{TeiFault}
use Rattle.lapd_tei.specs.declared.fault.TeiFault.TheVariants.{BadAi}
use Rattle.lapd_tei.specs.declared.kind.TeiKind.{TeiKind}
use Rattle.lapd_tei.specs.declared.kind.TeiKind.TheVariants as kind
use Rattle.lapd_tei.specs.declared.message.TeiMessage.{TeiMessage}
use Rattle.lapd_tei.specs.Message.{frame_of_message, message_at, message_octets, with_ai, with_kind, kind_at, kind_number, permits, group_tei}
use Rattle.lapd_table.specs.LinkId.{id_eq, id_of_address}
use Rattle.lapd_table.specs.Octets.{event_by}
use Rattle.lapd_sides.specs.Management.{carries_message, is_management, is_ui}
use Rattle.lapd_two_side_laws.specs.Addressed.{is_named, is_for, those_for}
use Rattle.lapd_two_side_laws.proofs.Managed.{and_not}
pub use Rattle.lapd_bus_laws.specs.Healing.{management_id}
use Rattle.lapd_bus_laws.specs.Assignments.{assignment_by, assignment_of, assignment_in_frame, assignment_in}
use Rattle.lapd_bus_laws.proofs.Lists.{none_first}

-- ---- A message is read as it was written.

kind_again : (k : TeiKind) → kind_at (kind_number k) ≡ Some k
kind_again kind.Request = refl
kind_again kind.Assigned = refl
kind_again kind.Denied = refl
kind_again kind.CheckRequest = refl
kind_again kind.CheckResponse = refl
kind_again kind.Remove = refl
kind_again kind.Verify = refl

ri_again : (ri : ℕ) → (ri / 256) * 256 + ri % 256 ≡ ri
ri_again ri = omega arith

ai_again : (ai : ℕ) → (ai * 2 + 1) / 2 ≡ ai
ai_again ai = omega arith

odd : (ai : ℕ) → ((ai * 2 + 1) % 2 == 1) ≡ true
odd ai = let e : (ai * 2 + 1) % 2 ≡ 1 = omega arith in grind (arith, nat_tests, e)

abbrev message : ℕ → TeiKind → ℕ → TeiMessage
message ri k ai = record { ri = ri; kind = k; ai = ai }

with_ai_again : (ri : ℕ) (k : TeiKind) (last ai : ℕ) → (last % 2 == 1) ≡ true → last / 2 ≡ ai
    → with_ai ri k last ≡ (if permits k ai then Ok (message ri k ai) else Err BadAi)
with_ai_again ri k last ai is_odd half =
    ap (λ (n : ℕ). if (last % 2 == 1) && permits k n then Ok (message ri k n) else Err BadAi) half
    ∙ ap (λ (b : Bool). if b && permits k ai then Ok (message ri k ai) else Err BadAi) is_odd

-- an action indicator that the message may not have is not read
pub message_again : (m : TeiMessage) → message_at (message_octets m)
    ≡ (if permits m.kind m.ai then Ok m else Err BadAi)
message_again m =
    ap (λ (k : Option TeiKind).
    with_kind ((m.ri / 256) * 256 + m.ri % 256) k (m.ai * 2 + 1)) (kind_again m.kind)
    ∙ ap (λ (ri : ℕ). with_ai ri m.kind (m.ai * 2 + 1)) (ri_again m.ri)
    ∙ with_ai_again m.ri m.kind (m.ai * 2 + 1) m.ai (odd m.ai) (ai_again m.ai)

sent_is_read : (m : TeiMessage) → assignment_in (spelling side.Network (frame_of_message m))
    ≡ assignment_of (message_at (message_octets m))
sent_is_read m = ap assignment_in_frame (frame_again side.Network (frame_of_message m) refl)

read_so : (m : TeiMessage) (test : Bool) → assignment_by m.kind m.ri m.ai ≡ None
    → assignment_of (if test then Ok m else Err BadAi) ≡ None
read_so m true none = none
read_so m false none = refl

-- no other message is an assignment
pub others_assign_nothing : (m : TeiMessage) → assignment_by m.kind m.ri m.ai ≡ None
    → assignment_in (spelling side.Network (frame_of_message m)) ≡ None
others_assign_nothing m none = sent_is_read m ∙ ap assignment_of (message_again m)
    ∙ read_so m (permits m.kind m.ai) none

-- an assignment is read, if its TEI is not the group TEI
pub assignment_again : (ri tei : ℕ) (test : Bool) → permits kind.Assigned tei ≡ test
    → assignment_in (spelling side.Network (frame_of_message
    (record { ri = ri; kind = kind.Assigned; ai = tei })))
    ≡ (if test then Some (record { reference = ri; tei = tei }) else None)
assignment_again ri tei test is =
    sent_is_read (message ri kind.Assigned tei) ∙ ap assignment_of
    (message_again (message ri kind.Assigned tei))
    ∙
    ap (λ (b : Bool).
    assignment_of (if b then Ok (message ri kind.Assigned tei) else Err BadAi)) is ∙ by test
  where
    by : (b : Bool) → assignment_of (if b then Ok (message ri kind.Assigned tei) else Err BadAi)
        ≡ (if b then Some (record { reference = ri; tei = tei }) else None)
    by true = refl
    by false = refl

-- ---- No frame of a link is a message of TEI management.

pub not_for_group : (tei : ℕ) → (127 == tei) ≡ false → (tei == group_tei) ≡ false
not_for_group tei h = grind (arith, nat_tests, h)

pub frame_holds_none : {X : Type 0} (read : Result TeiMessage TeiFault → Option X) (f : Fields)
    → id_eq management_id (id_of_address f.address) ≡ false
    → (if carries_message f then read (message_at f.info) else None) ≡ None
frame_holds_none {X} read f h = by f.address.sapi f.address.tei h
  where
    by : (s : Sapi) (tei : ℕ) → id_eq management_id (record { sapi = s; tei = tei }) ≡ false
        → (if is_management s && (is_ui f.control && (tei == group_tei)) then read
        (message_at f.info) else None) ≡ None
    by sapi.Call tei h = refl
    by sapi.Packet tei h = refl
    by sapi.Management tei h = ap (λ (b : Bool). if b then read (message_at f.info) else None)
        (and_not (is_ui f.control) (tei == group_tei) (not_for_group tei h))

pub links_hold_none : {X : Type 0} (from : Side) (found : Result Fields FrameFault → Option X)
    → ((r : Result Fields FrameFault) → is_named management_id (event_by r) ≡ false
    → found r ≡ None) → (frames : List (List ℕ)) → those_for from management_id frames ≡ []
    → filter_map (λ octets. found (frame_at from octets)) frames ≡ []
links_hold_none from found no_frame [] none = refl
links_hold_none from found no_frame (octets ∷ frames) none =
    let two = none_first (is_for from management_id) octets frames none in
    rw (no_frame (frame_at from octets) two.0) (links_hold_none from found no_frame frames two.1)

frame_assigns_nothing : (r : Result Fields FrameFault) → is_named management_id (event_by r) ≡ false
    → assignment_in_frame r ≡ None
frame_assigns_nothing (Err fault) h = refl
frame_assigns_nothing (Ok f) h = frame_holds_none assignment_of f h

pub links_assign_nothing : (frames : List (List ℕ)) → those_for side.Network management_id frames
    ≡ [] → filter_map assignment_in frames ≡ []
links_assign_nothing frames none =
    links_hold_none side.Network assignment_in_frame frame_assigns_nothing frames none
