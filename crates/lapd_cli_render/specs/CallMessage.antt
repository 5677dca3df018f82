-- A Q.931 message: its call reference (4.3), its message type (4.4) and what is printed of it.
use Rattle.std.specs.Prelude.{ℕ, ◌+◌, ◌*◌, ◌/◌, ◌%◌, ◌==◌, if◌then◌else◌, Bool, List, [], ◌∷◌, ◌++◌, codes, drop, Option, Some, None}
use Rattle.std.specs.Fmt.{decimal}
use Rattle.lapd_cli_render.specs.declared.call_message.CallMessage.{CallMessage}
use Rattle.lapd_cli_render.specs.declared.call_message.CallReference.{CallReference}
use Rattle.lapd_cli_render.specs.Elements.{elements_text}

-- a call reference; its flag, bit 8 of the first octet, is 1 in a message to the side that
-- originated the call (4.3)
abbrev pub reference_of : ℕ → ℕ → CallReference
reference_of flag value = record { value = value; to_origin = flag / 128 == 1 }

-- a message without a call reference, the dummy call reference
abbrev pub with_dummy : List ℕ → Option CallMessage
with_dummy [] = None
with_dummy (kind ∷ rest) = Some (record { reference = None; kind = kind })

-- a message with a call reference of one octet, as on a basic rate interface
abbrev pub with_one_octet : List ℕ → Option CallMessage
with_one_octet (value ∷ kind ∷ rest) = Some (record {
  reference = Some (reference_of value (value % 128));
  kind = kind;
})
with_one_octet octets = None

-- a message with a call reference of two octets, as on a primary rate interface
abbrev pub with_two_octets : List ℕ → Option CallMessage
with_two_octets (high ∷ low ∷ kind ∷ rest) = Some (record {
  reference = Some (reference_of high (high % 128 * 256 + low));
  kind = kind;
})
with_two_octets octets = None

-- the message after the length of the call reference
abbrev pub by_length : ℕ → List ℕ → Option CallMessage
by_length count octets = if count == 0 then with_dummy octets else (
    if count == 1 then with_one_octet octets else (
    if count == 2 then with_two_octets octets else None))

abbrev pub behind_discriminator : List ℕ → Option CallMessage
behind_discriminator [] = None
behind_discriminator (count ∷ octets) = by_length count octets

-- the message that begins these octets: the protocol discriminator is 8 (4.2)
abbrev pub message_at : List ℕ → Option CallMessage
message_at [] = None
message_at (discriminator ∷ octets) = if discriminator == 0x08 then behind_discriminator octets
    else None

-- the octets after the length of the call reference, the reference and the message type, which are
-- the information elements (4.5)
abbrev pub behind_length : List ℕ → List ℕ
behind_length [] = []
behind_length (count ∷ octets) = drop (count + 1) octets

abbrev pub elements_of : List ℕ → List ℕ
elements_of [] = []
elements_of (discriminator ∷ octets) = behind_length octets

-- the names of Table 4-2 of Q.931 (4.4): call establishment, call information, call clearing, and
-- miscellaneous
abbrev pub establishment_name : ℕ → Option (List ℕ)
establishment_name kind = if kind == 0x01 then Some (codes "ALERTING") else (
    if kind == 0x02 then Some (codes "CALL PROCEEDING") else (
    if kind == 0x03 then Some (codes "PROGRESS") else (
    if kind == 0x05 then Some (codes "SETUP") else (
    if kind == 0x07 then Some (codes "CONNECT") else (
    if kind == 0x0D then Some (codes "SETUP ACKNOWLEDGE") else (
    if kind == 0x0F then Some (codes "CONNECT ACKNOWLEDGE") else None))))))

abbrev pub information_name : ℕ → Option (List ℕ)
information_name kind = if kind == 0x20 then Some (codes "USER INFORMATION") else (
    if kind == 0x21 then Some (codes "SUSPEND REJECT") else (
    if kind == 0x22 then Some (codes "RESUME REJECT") else (
    if kind == 0x25 then Some (codes "SUSPEND") else (
    if kind == 0x26 then Some (codes "RESUME") else (
    if kind == 0x2D then Some (codes "SUSPEND ACKNOWLEDGE") else (
    if kind == 0x2E then Some (codes "RESUME ACKNOWLEDGE") else None))))))

abbrev pub clearing_name : ℕ → Option (List ℕ)
clearing_name kind = if kind == 0x45 then Some (codes "DISCONNECT") else (
    if kind == 0x46 then Some (codes "RESTART") else (
    if kind == 0x4D then Some (codes "RELEASE") else (
    if kind == 0x4E then Some (codes "RESTART ACKNOWLEDGE") else (
    if kind == 0x5A then Some (codes "RELEASE COMPLETE") else None))))

abbrev pub miscellaneous_name : ℕ → Option (List ℕ)
miscellaneous_name kind = if kind == 0x60 then Some (codes "SEGMENT") else (
    if kind == 0x6E then Some (codes "NOTIFY") else (
    if kind == 0x75 then Some (codes "STATUS ENQUIRY") else (
    if kind == 0x79 then Some (codes "CONGESTION CONTROL") else (
    if kind == 0x7B then Some (codes "INFORMATION") else (
    if kind == 0x7D then Some (codes "STATUS") else None)))))

-- the name of a message type, by its bits 6 and 7 (Table 4-2)
abbrev pub kind_name : ℕ → Option (List ℕ)
kind_name kind = if kind / 32 == 0 then establishment_name kind else (
    if kind / 32 == 1 then information_name kind else (
    if kind / 32 == 2 then clearing_name kind else (
    if kind / 32 == 3 then miscellaneous_name kind else None)))

-- the name of a message type, or its number if the table has none
abbrev pub name_or_number : ℕ → Option (List ℕ) → List ℕ
name_or_number kind None = codes "message " ++ decimal kind
name_or_number kind (Some name) = name

-- the direction of a message: from the side that originated the call, or to it
abbrev pub way_text : Bool → List ℕ
way_text to_origin = if to_origin then codes " to origin" else codes " from origin"

abbrev pub reference_text : Option CallReference → List ℕ
reference_text None = codes " cr=dummy"
reference_text (Some r) = codes " cr=" ++ (decimal r.value ++ way_text r.to_origin)

-- a space, the name and the call reference
abbrev pub header_text : CallMessage → List ℕ
header_text m = codes " "
    ++ (name_or_number m.kind (kind_name m.kind) ++ reference_text m.reference)

-- the message that these octets begin with, if any, and the printed elements among them
abbrev pub call_text : Option CallMessage → List ℕ → List ℕ
call_text None octets = []
call_text (Some m) octets = header_text m ++ elements_text (elements_of octets)
