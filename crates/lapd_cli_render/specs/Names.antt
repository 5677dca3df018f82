-- The end of a trace line: the message of TEI management or of Q.931 in words.
use Rattle.std.specs.Prelude.{ℕ, ◌/◌, ◌%◌, List, [], ◌∷◌, ◌++◌, codes, Result, Ok, Err}
use Rattle.std.specs.Fmt.{decimal}
use Rattle.hex.specs.Hex.{encode_lower}
use Rattle.lapd_frame.specs.declared.Side.{Side}
use Rattle.lapd_frame.specs.declared.Sapi.{Sapi}
use Rattle.lapd_frame.specs.declared.Sapi.TheVariants.{Call, Packet, Management}
use Rattle.lapd_frame.specs.declared.Control.{Control}
use Rattle.lapd_frame.specs.declared.Control.TheVariants.{I, Ui}
use Rattle.lapd_frame.specs.declared.FrameFault.{FrameFault}
use Rattle.lapd_frame.specs.Frame.{Fields}
use Rattle.lapd_frame.specs.Reading.{frame_at}
use Rattle.lapd_tei.specs.declared.TeiMessage.{TeiMessage}
use Rattle.lapd_tei.specs.declared.TeiFault.{TeiFault}
use Rattle.lapd_tei.specs.declared.TeiKind.{TeiKind}
use Rattle.lapd_tei.specs.declared.TeiKind.TheVariants.{Request, Assigned, Denied, CheckRequest, CheckResponse, Remove, Verify}
use Rattle.lapd_tei.specs.Message.{message_at as tei_message_at}
use Rattle.lapd_cli_render.specs.CallMessage.{call_text, message_at}

-- the names of TEI management (Q.921 Table 8)
abbrev pub kind_text : TeiKind → List ℕ
kind_text Request = codes " identity request Ri="
kind_text Assigned = codes " identity assigned Ri="
kind_text Denied = codes " identity denied Ri="
kind_text CheckRequest = codes " identity check request Ri="
kind_text CheckResponse = codes " identity check response Ri="
kind_text Remove = codes " identity remove Ri="
kind_text Verify = codes " identity verify Ri="

-- a reference number: its two octets in lower case hexadecimal, high first
abbrev pub reference_number_text : ℕ → List ℕ
reference_number_text ri = encode_lower ((ri / 256) ∷ (ri % 256) ∷ [])

-- a message of TEI management; nothing for octets that do not form one
abbrev pub tei_text : Result TeiMessage TeiFault → List ℕ
tei_text (Err fault) = []
tei_text (Ok m) = kind_text m.kind
    ++ (reference_number_text m.ri ++ (codes " Ai=" ++ decimal m.ai))

-- the information of an I or UI frame of this service access point: 0 carries Q.931, 63 in UI
-- frames TEI management
abbrev pub information_text : Sapi → List ℕ → List ℕ
information_text Call info = call_text (message_at info) info
information_text Packet info = []
information_text Management info = []

abbrev pub unit_data_text : Sapi → List ℕ → List ℕ
unit_data_text Call info = call_text (message_at info) info
unit_data_text Packet info = []
unit_data_text Management info = tei_text (tei_message_at info)

abbrev pub control_text : Control → Sapi → List ℕ → List ℕ
control_text (I ns nr p) sapi info = information_text sapi info
control_text (Ui p) sapi info = unit_data_text sapi info
control_text control sapi info = []

abbrev pub frame_text : Result Fields FrameFault → List ℕ
frame_text (Err fault) = []
frame_text (Ok f) = control_text f.control f.address.sapi f.info

-- the end of the trace line of octets that this side sent
abbrev pub names_text : Side → List ℕ → List ℕ
names_text from octets = frame_text (frame_at from octets)
