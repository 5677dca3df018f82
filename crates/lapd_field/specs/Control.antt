-- The control field of a frame (Q.921 3.4 to 3.6, Table 5): its octets as a function of the field,
-- and the field read from octets.
use Rattle.std.specs.Prelude.{ℕ, ◌+◌, ◌*◌, ◌/◌, ◌%◌, ◌≤◌, ◌==◌, if◌then◌else◌, Bool, true, false, List, [], ◌∷◌, Option, Some, None, Result, Ok, Err}
use Rattle.lapd_field.specs.declared.control.Control.{Control}
use Rattle.lapd_field.specs.declared.control.Control.TheVariants.{I, Rr, Rnr, Rej, Sabme, Dm, Ui, Disc, Ua, Frmr, Xid}
use Rattle.lapd_field.specs.declared.field_fault.FieldFault.{FieldFault}
use Rattle.lapd_field.specs.declared.field_fault.FieldFault.TheVariants.{TooShort, Undefined}
use Rattle.lapd_field.specs.declared.message_field.MessageField.{MessageField}
use Rattle.lapd_field.specs.declared.response.Response.{Response}

abbrev pub bit : Bool → ℕ
bit false = 0
bit true = 1

-- The octets of each field. In I and S fields the second octet holds N(R) and P or F; in U fields
-- the P/F bit has the value 16.
abbrev pub control_octets : Control → List ℕ
control_octets (I ns nr p) = (ns * 2) ∷ (nr * 2 + bit p) ∷ []
control_octets (Rr nr pf) = 0x01 ∷ (nr * 2 + bit pf) ∷ []
control_octets (Rnr nr pf) = 0x05 ∷ (nr * 2 + bit pf) ∷ []
control_octets (Rej nr pf) = 0x09 ∷ (nr * 2 + bit pf) ∷ []
control_octets (Sabme p) = (0x6F + bit p * 16) ∷ []
control_octets (Dm f) = (0x0F + bit f * 16) ∷ []
control_octets (Ui p) = (0x03 + bit p * 16) ∷ []
control_octets (Disc p) = (0x43 + bit p * 16) ∷ []
control_octets (Ua f) = (0x63 + bit f * 16) ∷ []
control_octets (Frmr f) = (0x87 + bit f * 16) ∷ []
control_octets (Xid pf) = (0xAF + bit pf * 16) ∷ []

-- sequence numbers have seven bits (Q.921 3.5.2.1)
abbrev pub IsControl : Control → Type 0
IsControl (I ns nr p) = (ns ≤ 127) × (nr ≤ 127)
IsControl (Rr nr pf) = nr ≤ 127
IsControl (Rnr nr pf) = nr ≤ 127
IsControl (Rej nr pf) = nr ≤ 127
IsControl (Sabme p) = Unit {0}
IsControl (Dm f) = Unit {0}
IsControl (Ui p) = Unit {0}
IsControl (Disc p) = Unit {0}
IsControl (Ua f) = Unit {0}
IsControl (Frmr f) = Unit {0}
IsControl (Xid pf) = Unit {0}

-- its P or F bit (Q.921 3.5.1)
abbrev pub poll_final : Control → Bool
poll_final (I ns nr p) = p
poll_final (Rr nr pf) = pf
poll_final (Rnr nr pf) = pf
poll_final (Rej nr pf) = pf
poll_final (Sabme p) = p
poll_final (Dm f) = f
poll_final (Ui p) = p
poll_final (Disc p) = p
poll_final (Ua f) = f
poll_final (Frmr f) = f
poll_final (Xid pf) = pf

-- An I or S field has two octets: its first is even, or ends in the bits 01 (Q.921 3.4, Table 4).
abbrev pub has_second : ℕ → Bool
has_second first = if first % 2 == 0 then true else first % 4 == 1

-- the field of one octet
abbrev pub unnumbered_at : ℕ → Option Control
unnumbered_at first =
    if first == 0x6F then Some (Sabme false) else (if first == 0x7F then Some (Sabme true) else (
    if first == 0x0F then Some (Dm false) else (if first == 0x1F then Some (Dm true) else (
    if first == 0x03 then Some (Ui false) else (if first == 0x13 then Some (Ui true) else (
    if first == 0x43 then Some (Disc false) else (if first == 0x53 then Some (Disc true) else (
    if first == 0x63 then Some (Ua false) else (if first == 0x73 then Some (Ua true) else (
    if first == 0x87 then Some (Frmr false) else (if first == 0x97 then Some (Frmr true) else (
    if first == 0xAF then Some (Xid false) else (if first == 0xBF then Some (Xid true)
    else None)))))))))))))

-- the field of two octets
abbrev pub numbered_at : ℕ → ℕ → Option Control
numbered_at first second =
    if first % 2 == 0 then Some (I (first / 2) (second / 2) (second % 2 == 1)) else (
    if first == 0x01 then Some (Rr (second / 2) (second % 2 == 1)) else (
    if first == 0x05 then Some (Rnr (second / 2) (second % 2 == 1)) else (
    if first == 0x09 then Some (Rej (second / 2) (second % 2 == 1)) else None)))

abbrev pub with_length : Option Control → ℕ → Result (Control × ℕ) FieldFault
with_length None n = Err Undefined
with_length (Some control) n = Ok (control, n)

-- a field of two octets whose first octet is this one
abbrev pub with_second : ℕ → List ℕ → Result (Control × ℕ) FieldFault
with_second first [] = Err TooShort
with_second first (second ∷ rest) = with_length (numbered_at first second) 2

-- the field at the front of these octets and how many octets it takes, or the fault
abbrev pub control_at : List ℕ → Result (Control × ℕ) FieldFault
control_at [] = Err TooShort
control_at (first ∷ rest) = if has_second first then with_second first rest
    else with_length (unnumbered_at first) 1

-- ---- Control fields by their numbers.

-- RR, or RNR if busy
abbrev pub ready_field : Bool → ℕ → Bool → Control
ready_field false nr pf = Rr nr pf
ready_field true nr pf = Rnr nr pf

-- the first octet of this field
abbrev pub ready_octet : Bool → ℕ
ready_octet false = 0x01
ready_octet true = 0x05

abbrev pub field_of_response : Response → Control
field_of_response r = ready_field r.is_busy r.nr r.f

abbrev pub field_of_message : MessageField → Control
field_of_message m = I m.ns m.nr false
