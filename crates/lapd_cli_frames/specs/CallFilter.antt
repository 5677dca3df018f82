-- The call reference in a frame (Q.931 4.3), without its flag.
use Rattle.std.specs.Prelude.{ℕ, List, Option, None, Some, Result, Ok, Err}
use Rattle.lapd_frame.specs.declared.Side.TheVariants.{Network, User}
use Rattle.lapd_frame.specs.declared.Sapi.{Sapi}
use Rattle.lapd_frame.specs.declared.Sapi.TheVariants.{Call, Packet, Management}
use Rattle.lapd_frame.specs.declared.Control.{Control}
use Rattle.lapd_frame.specs.declared.Control.TheVariants.{I, Ui}
use Rattle.lapd_frame.specs.declared.FrameFault.{FrameFault}
use Rattle.lapd_frame.specs.Frame.{Fields}
use Rattle.lapd_frame.specs.Reading.{frame_at}
use Rattle.lapd_cli_render.specs.declared.CallMessage.{CallMessage}
use Rattle.lapd_cli_render.specs.declared.CallReference.{CallReference}
use Rattle.lapd_cli_render.specs.CallMessage.{message_at}

abbrev pub value_of : Option CallReference → Option ℕ
value_of None = None
value_of (Some reference) = Some reference.value

-- a message without a call reference has none
abbrev pub reference_of : Option CallMessage → Option ℕ
reference_of None = None
reference_of (Some message) = value_of message.reference

-- SAPI 0 carries Q.931
abbrev pub call_by_sapi : Sapi → List ℕ → Option ℕ
call_by_sapi Call info = reference_of (message_at info)
call_by_sapi Packet info = None
call_by_sapi Management info = None

-- in I frames and UI frames
abbrev pub call_by_control : Control → Sapi → List ℕ → Option ℕ
call_by_control (I ns nr p) sapi info = call_by_sapi sapi info
call_by_control (Ui p) sapi info = call_by_sapi sapi info
call_by_control control sapi info = None

abbrev pub call_of : Result Fields FrameFault → Option ℕ
call_of (Err fault) = None
call_of (Ok f) = call_by_control f.control f.address.sapi f.info

abbrev pub first_of : Option ℕ → Option ℕ → Option ℕ
first_of None other = other
first_of (Some call) other = Some call

-- The call reference in these octets, if one side or the other sent them. I frames and UI frames are
-- commands, so only one of them can have sent one (Q.921 3.3.2).
abbrev pub call_in : List ℕ → Option ℕ
call_in octets = first_of (call_of (frame_at Network octets)) (call_of (frame_at User octets))
