-- Reading a frame from octets, and the first fault of octets that do not form a valid frame.
use Rattle.std.specs.Prelude.{ℕ, ◌/◌, ◌%◌, ◌==◌, ◌&&◌, ◌||◌, not, nat_lt, if◌then◌else◌, Bool, true, false, List, [], ◌∷◌, length, take, drop, Option, Some, None, is_none, Result, Ok, Err}
use Rattle.std.specs.List.{list_any}
use Rattle.std.specs.Result.{result_ok}
use Rattle.lapd_field.specs.declared.side.Side.{Side}
use Rattle.lapd_field.specs.declared.side.Role.{Role}
use Rattle.lapd_field.specs.declared.side.Role.TheVariants.{Command, Answer}
use Rattle.lapd_field.specs.declared.address.Address.{Address}
use Rattle.lapd_field.specs.declared.control.Control.{Control}
use Rattle.lapd_field.specs.declared.field_fault.FieldFault.{FieldFault}
use Rattle.lapd_field.specs.declared.field_fault.FieldFault.TheVariants as field
use Rattle.lapd_field.specs.Address.{address_at, is_badly_extended, role_of, sapi_at}
use Rattle.lapd_field.specs.Control.{control_at, has_second}
use Rattle.lapd_frame.specs.declared.fault_kind.FaultKind.{FaultKind}
use Rattle.lapd_frame.specs.declared.fault_kind.FaultKind.TheVariants.{TooShort, BadAddress, SapiNotServed, Undefined, InfoNotPermitted, WrongSize, InfoTooLong}
use Rattle.lapd_frame.specs.declared.frame_fault.FrameFault.{FrameFault}
use Rattle.lapd_frame.specs.Fault.{is_for_link}
use Rattle.lapd_frame.specs.Frame.{Fields, n201, content_fault, frame_of}

-- octets of no link (Q.921 2.9)
abbrev pub fault_for_no_link : FaultKind → Result Fields FrameFault
fault_for_no_link kind = Err (record { kind = kind; address = None })

-- a fault of the link with this address
abbrev pub fault_for_link : Address → Result Fields FaultKind → Result Fields FrameFault
fault_for_link address (Ok f) = Ok f
fault_for_link address (Err kind) = Err (record { kind = kind; address = Some address })

-- The frame of an address field, the control field after it with its length in octets, and the
-- information after both; or the fault.
abbrev pub frame_of_fields : Result Address FieldFault → Result (Control × ℕ) FieldFault → List ℕ
    → Result Fields FrameFault
frame_of_fields (Err field.BadAddress) control octets = fault_for_no_link BadAddress
frame_of_fields address (Err field.TooShort) octets = fault_for_no_link TooShort
frame_of_fields (Err fault) control octets = fault_for_no_link SapiNotServed
frame_of_fields (Ok address) (Err fault) octets = fault_for_link address (Err Undefined)
frame_of_fields (Ok address) (Ok (control, taken)) octets =
    fault_for_link address (frame_of address control (drop taken octets)
    (content_fault address.role control (length (drop taken octets))))

-- the frame in octets that this side sent, or the fault
abbrev pub frame_at : Side → List ℕ → Result Fields FrameFault
frame_at from [] = fault_for_no_link TooShort
frame_at from (first ∷ []) = fault_for_no_link TooShort
frame_at from (first ∷ second ∷ []) = fault_for_no_link TooShort
frame_at from (first ∷ second ∷ third ∷ rest) =
    frame_of_fields (address_at from (first ∷ second ∷ [])) (control_at (third ∷ rest))
    (third ∷ rest)

abbrev pub is_nil : List ℕ → Bool
is_nil [] = true
is_nil (octet ∷ octets) = false

-- a fault carries the address of the octets exactly if it is for a link
abbrev pub address_of : Side → List ℕ → FaultKind → Option Address
address_of from octets kind = if is_for_link kind then result_ok (address_at from (take 2 octets))
    else None

-- ---- The first fault: the first line of the list that holds for the octets.

abbrev pub line : Bool → FaultKind → Option FaultKind → Option FaultKind
line holds kind below = if holds then Some kind else below

abbrev pub is_among : List ℕ → ℕ → Bool
is_among octets octet = list_any (λ o. octet == o) octets

-- the first octets of control fields (Q.921 Table 5): S frames
abbrev pub supervisory_octets : List ℕ
supervisory_octets = 0x01 ∷ 0x05 ∷ 0x09 ∷ []

-- the U frames that may have this role: UI, DISC, SABME and XID as commands, DM, UA, FRMR and XID
-- as responses
abbrev pub unnumbered_octets : Role → List ℕ
unnumbered_octets Command = 0x03 ∷ 0x13 ∷ 0x43 ∷ 0x53 ∷ 0x6F ∷ 0x7F ∷ 0xAF ∷ 0xBF ∷ []
unnumbered_octets Answer = 0x0F ∷ 0x1F ∷ 0x63 ∷ 0x73 ∷ 0x87 ∷ 0x97 ∷ 0xAF ∷ 0xBF ∷ []

-- an I frame is a command
abbrev pub is_command : Role → Bool
is_command Command = true
is_command Answer = false

-- the control field is in the table, for this role
abbrev pub is_defined : Role → ℕ → Bool
is_defined role first = if first % 2 == 0 then is_command role
    else (if first % 4 == 1 then is_among supervisory_octets first
    else is_among (unnumbered_octets role) first)

abbrev pub is_supervisory : ℕ → Bool
is_supervisory first = not (first % 2 == 0) && is_among supervisory_octets first

-- SABME, DISC, DM and UA
abbrev pub is_without_information : ℕ → Bool
is_without_information first = not (first % 2 == 0)
    && is_among (0x6F ∷ 0x7F ∷ 0x43 ∷ 0x53 ∷ 0x0F ∷ 0x1F ∷ 0x63 ∷ 0x73 ∷ []) first

abbrev pub is_frame_reject : ℕ → Bool
is_frame_reject first = not (first % 2 == 0) && is_among (0x87 ∷ 0x97 ∷ []) first

-- an S frame has information, or a FRMR frame does not have five octets of it
abbrev pub is_wrong_size : ℕ → ℕ → Bool
is_wrong_size first len = if is_frame_reject first then not (len == 5)
    else (is_supervisory first && nat_lt 0 len)

-- I, UI and XID
abbrev pub is_with_information : ℕ → Bool
is_with_information first = (first % 2 == 0) || is_among (0x03 ∷ 0x13 ∷ 0xAF ∷ 0xBF ∷ []) first

-- how many octets of information follow a control field with this first octet
abbrev pub info_len : ℕ → List ℕ → ℕ
info_len first rest = length (if has_second first then drop 1 rest else rest)

-- the lines about the content: the control field and the length of the information
abbrev pub content_lines : Role → ℕ → ℕ → Option FaultKind
content_lines role first len =
    line (not (is_defined role first)) Undefined (
    line (is_without_information first && nat_lt 0 len) InfoNotPermitted (
    line (is_wrong_size first len) WrongSize (
    line (is_with_information first && nat_lt n201 len) InfoTooLong None)))

-- the first fault, if there is one
abbrev pub first_fault : Side → List ℕ → Option FaultKind
first_fault from [] = Some TooShort
first_fault from (first ∷ []) = Some TooShort
first_fault from (first ∷ second ∷ []) = Some TooShort
first_fault from (first ∷ second ∷ third ∷ rest) =
    line (is_badly_extended first second) BadAddress (
    line (has_second third && is_nil rest) TooShort (
    line (is_none (sapi_at (first / 4))) SapiNotServed (
    content_lines (role_of from (first / 2 % 2 == 1)) third (info_len third rest))))
