-- The link that octets are for, and its input.
use Rattle.std.specs.Prelude.{ℕ, List, Option, Some, None, Result, Ok, Err}
use Rattle.lapd_frame.specs.declared.Side.{Side}
use Rattle.lapd_frame.specs.declared.Address.{Address}
use Rattle.lapd_frame.specs.declared.fault_kind.FaultKind.{FaultKind}
use Rattle.lapd_frame.specs.declared.frame_fault.FrameFault.{FrameFault}
use Rattle.lapd_frame.specs.Frame.{Fields}
use Rattle.lapd_frame.specs.Reading.{frame_at}
use Rattle.lapd_link_definition.specs.Input.{Input, Heard, Faulty}
use Rattle.lapd_table.specs.declared.link_id.LinkId.{LinkId}
use Rattle.lapd_table.specs.LinkId.{id_of_address}

-- a fault of the link with this address (F4 to F7, Q.921 5.8.5), or of no link (F1 to F3, Q.921
-- 2.9)
abbrev pub fault_for : Option Address → FaultKind → Result (LinkId × Input) FaultKind
fault_for (Some address) kind = Ok (id_of_address address, Faulty kind)
fault_for None kind = Err kind

abbrev pub event_by : Result Fields FrameFault → Result (LinkId × Input) FaultKind
event_by (Ok f) = Ok (id_of_address f.address, Heard f.control f.address.role)
event_by (Err fault) = fault_for fault.address fault.kind

-- Octets that this side sends: the link whose address they carry, with the frame or the fault that
-- it receives; or the fault because of which they are for no link.
abbrev pub addressed : Side → List ℕ → Result (LinkId × Input) FaultKind
addressed from octets = event_by (frame_at from octets)
