-- The kind and the C/R bit of a frame name its sender, and octets that name none are shown and drawn
-- alike as those of each side.
use Rattle.std.proofs.Common.{◌≡◌, ◌+◌, ◌*◌, ◌/◌, ◌%◌, ◌==◌, ℕ, Bool, true, false, List, [], ◌∷◌, ◌++◌, length, drop, if◌then◌else◌, option_map, Option, Some, None, Result, Ok, Err, refl, sym, ap, ◌∙◌, arith}
use Rattle.lapd_field.specs.Address.{command_bit, is_badly_extended, role_of, sapi_at, sapi_value, with_sapi}
use Rattle.lapd_field.specs.Control.{control_at, control_octets}
use Rattle.lapd_field.proofs.FieldLaws.{control_again}
use Rattle.lapd_frame.specs.declared.Side.{Side}
use Rattle.lapd_frame.specs.declared.Side.TheVariants.{Network, User}
use Rattle.lapd_frame.specs.declared.Role.{Role}
use Rattle.lapd_frame.specs.declared.Role.TheVariants.{Command, Answer}
use Rattle.lapd_frame.specs.declared.Sapi.{Sapi}
use Rattle.lapd_frame.specs.declared.Sapi.TheVariants.{Call, Packet, Management}
use Rattle.lapd_frame.specs.declared.Address.{Address}
use Rattle.lapd_frame.specs.declared.Control.{Control}
use Rattle.lapd_frame.specs.declared.Control.TheVariants.{I, Rr, Rnr, Rej, Sabme, Dm, Ui, Disc, Ua, Frmr, Xid}
use Rattle.lapd_frame.specs.declared.FieldFault.{FieldFault}
use Rattle.lapd_frame.specs.declared.FieldFault.TheVariants as field
use Rattle.lapd_frame.specs.declared.FaultKind.{FaultKind}
use Rattle.lapd_frame.specs.declared.FrameFault.{FrameFault}
use Rattle.lapd_frame.specs.Frame.{Fields, IsFrame, content_fault, frame_of, spelling}
use Rattle.lapd_frame.specs.Reading.{fault_for_link, frame_at, frame_of_fields}
use Rattle.lapd_follow.specs.Listening.{Listening}
use Rattle.lapd_cli_render.specs.declared.Packet.{Packet as JsonPacket}
use Rattle.lapd_cli_ladder.specs.Words.{frame_words, known_words}
use Rattle.lapd_cli_frames.specs.declared.style.Style.{Style}
use Rattle.lapd_cli_frames.specs.declared.style.Style.TheVariants.{Plain, Named, Brief, Json, NamedJson}
use Rattle.lapd_follow.specs.Senders.{role_by_kind, sender_by_kind, sender_of_control, sender_of_role}
use Rattle.lapd_cli_frames.specs.ShownText.{shown_text}

-- ---- A frame names its sender.

-- a frame has the role of its kind
kind_role : (role kind : Role) (c : Control) (len : ℕ) → content_fault role c len ≡ None
    → role_by_kind c ≡ Some kind → role_by_kind c ≡ Some role
kind_role Command kind (I ns nr p) len e h = refl
kind_role Answer kind (I ns nr p) len e h = cc
kind_role Command kind (Sabme p) len e h = refl
kind_role Answer kind (Sabme p) len e h = cc
kind_role Command kind (Ui p) len e h = refl
kind_role Answer kind (Ui p) len e h = cc
kind_role Command kind (Disc p) len e h = refl
kind_role Answer kind (Disc p) len e h = cc
kind_role Command kind (Dm f) len e h = cc
kind_role Answer kind (Dm f) len e h = refl
kind_role Command kind (Ua f) len e h = cc
kind_role Answer kind (Ua f) len e h = refl
kind_role Command kind (Frmr f) len e h = cc
kind_role Answer kind (Frmr f) len e h = refl
kind_role role kind (Rr nr pf) len e h = cc
kind_role role kind (Rnr nr pf) len e h = cc
kind_role role kind (Rej nr pf) len e h = cc
kind_role role kind (Xid pf) len e h = cc

odd : (n : ℕ) → (n * 2 + 1) % 2 ≡ 1
odd n = omega arith

sender_again : (from : Side) (sapi : Sapi) (role : Role) (tei : ℕ) (octets : List ℕ) (c : Control)
    (n : ℕ) → control_at octets ≡ Ok (c, n) → role_by_kind c ≡ Some role
    → sender_by_kind ((sapi_value sapi * 4 + command_bit from role * 2) ∷ (tei * 2 + 1) ∷ octets)
    ≡ Some from
sender_again Network Call Command tei octets c n e h = rw (odd tei, e, h) refl
sender_again Network Call Answer tei octets c n e h = rw (odd tei, e, h) refl
sender_again Network Packet Command tei octets c n e h = rw (odd tei, e, h) refl
sender_again Network Packet Answer tei octets c n e h = rw (odd tei, e, h) refl
sender_again Network Management Command tei octets c n e h = rw (odd tei, e, h) refl
sender_again Network Management Answer tei octets c n e h = rw (odd tei, e, h) refl
sender_again User Call Command tei octets c n e h = rw (odd tei, e, h) refl
sender_again User Call Answer tei octets c n e h = rw (odd tei, e, h) refl
sender_again User Packet Command tei octets c n e h = rw (odd tei, e, h) refl
sender_again User Packet Answer tei octets c n e h = rw (odd tei, e, h) refl
sender_again User Management Command tei octets c n e h = rw (odd tei, e, h) refl
sender_again User Management Answer tei octets c n e h = rw (odd tei, e, h) refl

pub sender_found : (from : Side) (f : Fields) (kind : Role) → IsFrame f
    → role_by_kind f.control ≡ Some kind → sender_by_kind (spelling from f) ≡ Some from
sender_found from f kind is h =
    sender_again from f.address.sapi f.address.role f.address.tei
    (control_octets f.control ++ f.info) f.control (length (control_octets f.control))
    (control_again f.control f.info)
    (kind_role f.address.role kind f.control (length f.info) is.content h)

-- ---- Octets that name no sender.

-- what is read, as if it were a command, and without the address of a fault
abbrev as_command : Result Fields FrameFault → Result Fields FrameFault
as_command (Ok f) = Ok (record {
  address = record { sapi = f.address.sapi; tei = f.address.tei; role = Command };
  control = f.control;
  info = f.info;
})
as_command (Err fault) = Err (record { kind = fault.kind; address = None })

shown_as_command : (style : Style) (is_cut : Bool) (packet : Option JsonPacket) (octets : List ℕ)
    (reading : Result Fields FrameFault)
    → shown_text style is_cut packet None octets reading
    ≡ shown_text style is_cut packet None octets (as_command reading)
shown_as_command Plain is_cut packet octets (Ok f) = refl
shown_as_command Plain is_cut packet octets (Err fault) = refl
shown_as_command Named is_cut packet octets (Ok f) = refl
shown_as_command Named is_cut packet octets (Err fault) = refl
shown_as_command Brief is_cut packet octets (Ok f) = refl
shown_as_command Brief is_cut packet octets (Err fault) = refl
shown_as_command Json is_cut packet octets (Ok f) = refl
shown_as_command Json is_cut packet octets (Err fault) = refl
shown_as_command NamedJson is_cut packet octets (Ok f) = refl
shown_as_command NamedJson is_cut packet octets (Err fault) = refl

-- the content of a frame that may have both roles
content_of_both : (role : Role) (c : Control) (len : ℕ) → role_by_kind c ≡ None
    → content_fault role c len ≡ content_fault Command c len
content_of_both Command c len h = refl
content_of_both Answer (Rr nr pf) len h = refl
content_of_both Answer (Rnr nr pf) len h = refl
content_of_both Answer (Rej nr pf) len h = refl
content_of_both Answer (Xid pf) len h = refl
content_of_both Answer (I ns nr p) len h = cc
content_of_both Answer (Sabme p) len h = cc
content_of_both Answer (Dm f) len h = cc
content_of_both Answer (Ui p) len h = cc
content_of_both Answer (Disc p) len h = cc
content_of_both Answer (Ua f) len h = cc
content_of_both Answer (Frmr f) len h = cc

abbrev with_role : Sapi → ℕ → Role → Address
with_role sapi tei role = record { sapi = sapi; tei = tei; role = role }

parts_alike : (sapi : Sapi) (tei : ℕ) (r s : Role) (c : Control) (info : List ℕ)
    (content : Option FaultKind)
    → as_command
    (fault_for_link (with_role sapi tei r) (frame_of (with_role sapi tei r) c info content))
    ≡ as_command
    (fault_for_link (with_role sapi tei s) (frame_of (with_role sapi tei s) c info content))
parts_alike sapi tei r s c info None = refl
parts_alike sapi tei r s c info (Some fault) = refl

unmapped : (bit : Bool) (role : Option Role) → option_map (sender_of_role bit) role ≡ None
    → role ≡ None
unmapped bit None h = refl
unmapped bit (Some role) h = cc

control_alike : (bit : Bool) (sapi : Sapi) (tei : ℕ) (r s : Role)
    (control : Result (Control × ℕ) FieldFault) (octets : List ℕ)
    → sender_of_control bit control ≡ None
    → as_command (frame_of_fields (Ok (with_role sapi tei r)) control octets)
    ≡ as_command (frame_of_fields (Ok (with_role sapi tei s)) control octets)
control_alike bit sapi tei r s (Err field.TooShort) octets h = refl
control_alike bit sapi tei r s (Err field.BadAddress) octets h = refl
control_alike bit sapi tei r s (Err field.SapiNotServed) octets h = refl
control_alike bit sapi tei r s (Err field.Undefined) octets h = refl
control_alike bit sapi tei r s (Ok (c, n)) octets h =
    let none = unmapped bit (role_by_kind c) h in
    parts_alike sapi tei r s c (drop n octets) (content_fault r c (length (drop n octets)))
    ∙ ap (λ content. as_command (fault_for_link (with_role sapi tei s)
    (frame_of (with_role sapi tei s) c (drop n octets) content)))
    (content_of_both r c (length (drop n octets)) none
    ∙ sym (content_of_both s c (length (drop n octets)) none))

fields_alike : (bad bit : Bool) (sapi : Option Sapi) (tei : ℕ) (r s : Role)
    (control : Result (Control × ℕ) FieldFault) (octets : List ℕ)
    → (if bad then None else sender_of_control bit control) ≡ None
    → as_command (frame_of_fields (if bad then Err field.BadAddress else with_sapi sapi tei r)
    control octets)
    ≡ as_command (frame_of_fields (if bad then Err field.BadAddress else with_sapi sapi tei s)
    control octets)
fields_alike true bit sapi tei r s control octets h = refl
fields_alike false bit None tei r s control octets h = refl
fields_alike false bit (Some sapi) tei r s control octets h =
    control_alike bit sapi tei r s control octets h

read_alike : (octets : List ℕ) → sender_by_kind octets ≡ None
    → as_command (frame_at User octets) ≡ as_command (frame_at Network octets)
read_alike [] h = refl
read_alike (first ∷ []) h = refl
read_alike (first ∷ second ∷ []) h = refl
read_alike (first ∷ second ∷ third ∷ rest) h =
    let bit = first / 2 % 2 == 1 in
    fields_alike (is_badly_extended first second) bit (sapi_at (first / 4)) (second / 2)
    (role_of User bit) (role_of Network bit) (control_at (third ∷ rest)) (third ∷ rest) h

pub shown_alike : (style : Style) (is_cut : Bool) (packet : Option JsonPacket) (octets : List ℕ)
    → sender_by_kind octets ≡ None
    → shown_text style is_cut packet None octets (frame_at User octets)
    ≡ shown_text style is_cut packet None octets (frame_at Network octets)
shown_alike style is_cut packet octets h =
    shown_as_command style is_cut packet octets (frame_at User octets)
    ∙ ap (shown_text style is_cut packet None octets) (read_alike octets h)
    ∙ sym (shown_as_command style is_cut packet octets (frame_at Network octets))

words_as_command : (names : Bool) (octets : List ℕ) (reading : Result Fields FrameFault)
    → frame_words names None octets reading ≡ frame_words names None octets (as_command reading)
words_as_command names octets (Ok f) = refl
words_as_command names octets (Err fault) = refl

pub words_alike : (names : Bool) (octets : List ℕ) → sender_by_kind octets ≡ None
    → frame_words names None octets (frame_at User octets)
    ≡ frame_words names None octets (frame_at Network octets)
words_alike names octets h =
    words_as_command names octets (frame_at User octets)
    ∙ ap (frame_words names None octets) (read_alike octets h)
    ∙ sym (words_as_command names octets (frame_at Network octets))

ends_as_command : (side : Side) (reading : Result Fields FrameFault) (listening : Option Listening)
    → known_words side reading listening ≡ known_words side (as_command reading) listening
ends_as_command side (Ok f) None = refl
ends_as_command side (Ok f) (Some l) = refl
ends_as_command side (Err fault) None = refl
ends_as_command side (Err fault) (Some l) = refl

pub ends_alike : (side : Side) (octets : List ℕ) (listening : Option Listening)
    → sender_by_kind octets ≡ None
    → known_words side (frame_at User octets) listening
    ≡ known_words side (frame_at Network octets) listening
ends_alike side octets listening h =
    ends_as_command side (frame_at User octets) listening
    ∙ ap (λ reading. known_words side reading listening) (read_alike octets h)
    ∙ sym (ends_as_command side (frame_at Network octets) listening)
