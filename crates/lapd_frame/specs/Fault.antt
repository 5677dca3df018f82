-- The names of the faults.
use Rattle.std.specs.Prelude.{ℕ, Bool, true, false, List, codes}
use Rattle.lapd_field.specs.declared.field_fault.FieldFault.{FieldFault}
use Rattle.lapd_field.specs.declared.field_fault.FieldFault.TheVariants as field
use Rattle.lapd_frame.specs.declared.fault_kind.FaultKind.{FaultKind}
use Rattle.lapd_frame.specs.declared.fault_kind.FaultKind.TheVariants.{TooShort, BadAddress, SapiNotServed, Undefined, InfoNotPermitted, WrongSize, InfoTooLong}

-- a fault of a field, as a fault of the frame
abbrev pub kind_of : FieldFault → FaultKind
kind_of field.TooShort = TooShort
kind_of field.BadAddress = BadAddress
kind_of field.SapiNotServed = SapiNotServed
kind_of field.Undefined = Undefined

abbrev pub fault_name : FaultKind → List ℕ
fault_name TooShort = codes "F1 TooShort"
fault_name BadAddress = codes "F2 BadAddress"
fault_name SapiNotServed = codes "F3 SapiNotServed"
fault_name Undefined = codes "F4 Undefined"
fault_name InfoNotPermitted = codes "F5 InfoNotPermitted"
fault_name WrongSize = codes "F6 WrongSize"
fault_name InfoTooLong = codes "F7 InfoTooLong"

-- faults for a link (Q.921 5.8.5); octets with any other fault are for no link and are discarded
-- (Q.921 2.9)
abbrev pub is_for_link : FaultKind → Bool
is_for_link TooShort = false
is_for_link BadAddress = false
is_for_link SapiNotServed = false
is_for_link Undefined = true
is_for_link InfoNotPermitted = true
is_for_link WrongSize = true
is_for_link InfoTooLong = true
