-- Which TEI a terminal shows to have by a frame that it sends.
use Rattle.std.specs.Prelude.{ℕ, List, Option, Some, None, Result, Ok, Err}
use Rattle.lapd_frame.specs.declared.Address.{Address}
use Rattle.lapd_frame.specs.declared.Sapi.{Sapi}
use Rattle.lapd_frame.specs.declared.Sapi.TheVariants.{Call, Packet, Management}
use Rattle.lapd_frame.specs.declared.Control.{Control}
use Rattle.lapd_frame.specs.declared.Control.TheVariants.{Ui}
use Rattle.lapd_frame.specs.declared.frame_fault.FrameFault.{FrameFault}
use Rattle.lapd_frame.specs.Frame.{Fields}
use Rattle.lapd_tei.specs.declared.fault.TeiFault.{TeiFault}
use Rattle.lapd_tei.specs.declared.message.TeiMessage.{TeiMessage}
use Rattle.lapd_tei.specs.declared.kind.TeiKind.{TeiKind}
use Rattle.lapd_tei.specs.declared.kind.TeiKind.TheVariants.{CheckResponse}
use Rattle.lapd_tei.specs.Message.{message_at}
use Rattle.lapd_tei_audit.specs.declared.use_of_tei.UsedTei.{UsedTei}
use Rattle.lapd_tei_audit.specs.declared.use_of_tei.UsedTei.TheVariants.{Link, Answer, Nothing}

-- a check response names the TEI of the terminal that sends it (5.3.3)
abbrev pub used_by_kind : TeiKind → ℕ → UsedTei
used_by_kind CheckResponse tei = Answer tei
used_by_kind other tei = Nothing

abbrev pub used_by_text : Result TeiMessage TeiFault → UsedTei
used_by_text (Ok message) = used_by_kind message.kind message.ai
used_by_text (Err fault) = Nothing

abbrev pub used_by_message : List ℕ → UsedTei
used_by_message info = used_by_text (message_at info)

-- the address of a frame of layer 3 has the TEI of the terminal (3.3.4)
abbrev pub used_by_address : Sapi → ℕ → UsedTei
used_by_address Call tei = Link tei
used_by_address Packet tei = Link tei
used_by_address Management tei = Nothing

-- a UI frame of SAPI 63 carries a message of TEI management (5.3.1)
abbrev pub used_by_management : Control → List ℕ → UsedTei
used_by_management (Ui p) info = used_by_message info
used_by_management other info = Nothing

abbrev pub used_by_fields : Sapi → ℕ → Control → List ℕ → UsedTei
used_by_fields Management tei control info = used_by_management control info
used_by_fields Call tei control info = Link tei
used_by_fields Packet tei control info = Link tei

abbrev pub used_by_frame : Fields → UsedTei
used_by_frame f = used_by_fields f.address.sapi f.address.tei f.control f.info

-- octets that do not form a valid frame may have an address all the same
abbrev pub used_by_fault : Option Address → UsedTei
used_by_fault None = Nothing
used_by_fault (Some address) = used_by_address address.sapi address.tei

abbrev pub used_by : Result Fields FrameFault → UsedTei
used_by (Ok f) = used_by_frame f
used_by (Err fault) = used_by_fault fault.address
