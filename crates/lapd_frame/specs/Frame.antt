-- The grammar of frames (Q.921 clause 3), without how they are read.
use Rattle.std.specs.Prelude.{◌≡◌, ℕ, nat_eq, nat_lt, if◌then◌else◌, List, ◌++◌, length, Option, Some, None, Result, Ok, Err}
use Rattle.lapd_field.specs.declared.side.Side.{Side}
use Rattle.lapd_field.specs.declared.side.Role.{Role}
use Rattle.lapd_field.specs.declared.side.Role.TheVariants.{Command, Answer}
use Rattle.lapd_field.specs.declared.address.Address.{Address}
use Rattle.lapd_field.specs.declared.control.Control.{Control}
use Rattle.lapd_field.specs.declared.control.Control.TheVariants.{I, Rr, Rnr, Rej, Sabme, Dm, Ui, Disc, Ua, Frmr, Xid}
use Rattle.lapd_field.specs.Address.{address_octets, IsAddress}
use Rattle.lapd_field.specs.Control.{control_octets, IsControl}
use Rattle.lapd_frame.specs.declared.fault_kind.FaultKind.{FaultKind}
use Rattle.lapd_frame.specs.declared.fault_kind.FaultKind.TheVariants.{Undefined, InfoNotPermitted, WrongSize, InfoTooLong}

-- the parts of a frame (Q.921 2.1 to 2.5)
pub record Fields : Type 0 where
  pub address : Address
  pub control : Control
  pub info : List ℕ

-- N201, the greatest number of octets of information (Q.921 5.9.3)
abbrev pub n201 : ℕ
n201 = 260

-- at most N201 octets of information
abbrev pub at_most_n201 : ℕ → Option FaultKind
at_most_n201 len = if nat_lt n201 len then Some InfoTooLong else None

-- no information
abbrev pub no_information : FaultKind → ℕ → Option FaultKind
no_information fault len = if nat_lt 0 len then Some fault else None

-- five octets of information (Q.921 3.6.11)
abbrev pub five_octets : ℕ → Option FaultKind
five_octets len = if nat_eq len 5 then None else Some WrongSize

-- The faults of each line of the control table (Q.921 Table 5): first the wrong role, then a wrong
-- length of the information.
abbrev pub content_fault : Role → Control → ℕ → Option FaultKind
content_fault Command (I ns nr p) len = at_most_n201 len
content_fault Answer (I ns nr p) len = Some Undefined
content_fault role (Rr nr pf) len = no_information WrongSize len
content_fault role (Rnr nr pf) len = no_information WrongSize len
content_fault role (Rej nr pf) len = no_information WrongSize len
content_fault Command (Sabme p) len = no_information InfoNotPermitted len
content_fault Answer (Sabme p) len = Some Undefined
content_fault Answer (Dm f) len = no_information InfoNotPermitted len
content_fault Command (Dm f) len = Some Undefined
content_fault Command (Ui p) len = at_most_n201 len
content_fault Answer (Ui p) len = Some Undefined
content_fault Command (Disc p) len = no_information InfoNotPermitted len
content_fault Answer (Disc p) len = Some Undefined
content_fault Answer (Ua f) len = no_information InfoNotPermitted len
content_fault Command (Ua f) len = Some Undefined
content_fault Answer (Frmr f) len = five_octets len
content_fault Command (Frmr f) len = Some Undefined
content_fault role (Xid pf) len = at_most_n201 len

-- the octets of a frame that this side sends
abbrev pub spelling : Side → Fields → List ℕ
spelling from f = address_octets from f.address ++ control_octets f.control ++ f.info

-- these parts form a frame
pub record IsFrame (f : Fields) : Type 0 where
  pub address : IsAddress f.address
  pub control : IsControl f.control
  pub content : content_fault f.address.role f.control (length f.info) ≡ None

-- the frame with these parts, or the given fault
abbrev pub frame_of : Address → Control → List ℕ → Option FaultKind → Result Fields FaultKind
frame_of address control info None = Ok (record {
  address = address;
  control = control;
  info = info;
})
frame_of address control info (Some fault) = Err fault
