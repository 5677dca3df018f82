-- The words of a ladder: of a frame, of what is known of an end, and of the remarks on a frame.
use Rattle.std.specs.Prelude.{ℕ, if◌then◌else◌, Bool, true, false, List, [], ◌∷◌, ◌++◌, codes, slice_get, Option, Some, None, is_some, unwrap_or, Result, Ok, Err}
use Rattle.std.specs.Fmt.{decimal}
use Rattle.lapd_frame.specs.Control.{poll_final}
use Rattle.lapd_frame.specs.declared.Side.{Side}
use Rattle.lapd_frame.specs.declared.Side.TheVariants.{Network}
use Rattle.lapd_frame.specs.declared.Sapi.{Sapi}
use Rattle.lapd_frame.specs.declared.Sapi.TheVariants.{Call, Packet, Management}
use Rattle.lapd_frame.specs.declared.Role.{Role}
use Rattle.lapd_frame.specs.declared.Control.{Control}
use Rattle.lapd_frame.specs.declared.Control.TheVariants.{I, Ui}
use Rattle.lapd_frame.specs.declared.FrameFault.{FrameFault}
use Rattle.lapd_frame.specs.Address.{sapi_value}
use Rattle.lapd_frame.specs.Fault.{fault_name}
use Rattle.lapd_frame.specs.Frame.{Fields}
use Rattle.lapd_frame.specs.Reading.{frame_at}
use Rattle.lapd_trace.specs.Trace.{octets_text, poll_text}
use Rattle.lapd_follow.specs.declared.end.Busy.{Busy}
use Rattle.lapd_follow.specs.declared.end.Busy.TheVariants.{Free, Reported, Answered}
use Rattle.lapd_follow.specs.declared.numbering.Numbering.{Numbering}
use Rattle.lapd_follow.specs.declared.remark.Class.{Class}
use Rattle.lapd_follow.specs.declared.remark.Class.TheVariants.{Normal, Recovery, Violation}
use Rattle.lapd_follow.specs.declared.remark.Remark.{Remark}
use Rattle.lapd_follow.specs.declared.remarks.Remarks.{Remarks}
use Rattle.lapd_follow.specs.Ends.{EndKnown}
use Rattle.lapd_follow.specs.Follower.{place_of, seen_link}
use Rattle.lapd_follow.specs.Link.{LinkKnown, end_of}
use Rattle.lapd_follow.specs.Listening.{Listening}
use Rattle.lapd_follow.specs.Remarks.{class_of}
use Rattle.lapd_follow.specs.Texts.{remark_text}
use Rattle.lapd_cli_render.specs.declared.call_message.CallMessage.{CallMessage}
use Rattle.lapd_cli_render.specs.CallMessage.{kind_name, message_at}
use Rattle.lapd_cli_ladder.specs.Parts.{name_of, nr_of, ns_of}

-- ---- A frame.

-- octets of this sender. If it is not known, they are read as the network's: both sides read them
-- alike but for the role.
abbrev pub reading_of : Option Side → List ℕ → Result Fields FrameFault
reading_of from octets = frame_at (unwrap_or from Network) octets

-- the role is known if the sender is
abbrev pub known_role : Option Side → Role → Option Role
known_role None role = None
known_role (Some from) role = Some role

-- the P/F bit: P or F by its role, if this is known
abbrev pub bit_words : Option Role → Bool → List ℕ
bit_words None false = codes " P/F=0"
bit_words None true = codes " P/F=1"
bit_words (Some role) bit = poll_text role bit

-- these words and a number, if there is one
abbrev pub number_words : List ℕ → Option ℕ → List ℕ
number_words words None = []
number_words words (Some number) = words ++ decimal number

-- a control field in a frame with this role
abbrev pub control_words : Option Role → Control → List ℕ
control_words role control = name_of control ++ (number_words (codes " N(S)=") (ns_of control)
    ++ (number_words (codes " N(R)=") (nr_of control) ++ bit_words role (poll_final control)))

-- its SAPI and TEI, and then as in a trace line
abbrev pub head_words : Option Role → Fields → List ℕ
head_words role f = decimal (sapi_value f.address.sapi) ++ (codes " " ++ (decimal f.address.tei
    ++ (codes " " ++ control_words role f.control)))

-- the name of the message of Q.931 in a frame: an I or UI frame of SAPI 0 has one
abbrev pub kind_or_none : Option CallMessage → Option (List ℕ)
kind_or_none None = None
kind_or_none (Some m) = kind_name m.kind

abbrev pub name_by_control : Control → List ℕ → Option (List ℕ)
name_by_control (I ns nr p) info = kind_or_none (message_at info)
name_by_control (Ui p) info = kind_or_none (message_at info)
name_by_control control info = None

abbrev pub message_name : Sapi → Control → List ℕ → Option (List ℕ)
message_name Call control info = name_by_control control info
message_name Packet control info = None
message_name Management control info = None

-- the frame, with this name of its message in place of the octets
abbrev pub fields_words : Option Role → Fields → Option (List ℕ) → List ℕ
fields_words role f None = head_words role f ++ octets_text (codes " info=") f.info
fields_words role f (Some name) = name ++ (codes " " ++ head_words role f)

-- messages are named if that is requested
abbrev pub name_if : Bool → Fields → Option (List ℕ)
name_if names f = if names then message_name f.address.sapi f.control f.info else None

-- octets that do not form a valid frame: their first fault, and the octets
abbrev pub frame_words : Bool → Option Side → List ℕ → Result Fields FrameFault → List ℕ
frame_words names from octets (Ok f) =
    fields_words (known_role from f.address.role) f (name_if names f)
frame_words names from octets (Err fault) = fault_name fault.kind ++ octets_text (codes " ") octets

-- ---- An end of its link, as far as the frames up to this one show it.

-- its last SABME or DISC is not answered
abbrev pub command_words : Bool → List ℕ
command_words true = codes "SABME sent"
command_words false = codes "DISC sent"

-- its next N(S), and the last N(R) that it sent; a hyphen if they are not known
abbrev pub numbers_words : Option Numbering → List ℕ
numbers_words None = codes "-"
numbers_words (Some own) = codes "S" ++ (decimal own.next ++ (codes " R" ++ decimal own.nr))

-- whether its last poll is not answered
abbrev pub poll_words : Bool → List ℕ
poll_words false = []
poll_words true = codes " poll"

-- it reported that it is busy
abbrev pub busy_words : Busy → List ℕ
busy_words Free = []
busy_words Reported = codes " busy"
busy_words Answered = codes " busy"

-- an end that has released its link has no numbers
abbrev pub end_words : EndKnown → List ℕ
end_words e = if is_some e.commands.last then command_words e.is_establishing
    else (if e.is_released then codes "-"
    else (numbers_words e.numbering ++ (poll_words (is_some e.polls.last) ++ busy_words e.busy)))

-- a hyphen if the link is not known, since its TEI was just assigned or removed
abbrev pub link_words : Side → Option LinkKnown → List ℕ
link_words side None = codes "-"
link_words side (Some l) = end_words (end_of side l)

-- the end of this side of a frame's link; nothing for octets that do not form a valid frame, and if
-- links are not followed
abbrev pub known_words : Side → Result Fields FrameFault → Option Listening → List ℕ
known_words side (Err fault) listening = []
known_words side (Ok f) None = []
known_words side (Ok f) (Some l) =
    link_words side (seen_link (slice_get l.line.links.links (place_of f.address)))

-- ---- A remark; a violation is marked.

-- the remarks beside the name of the message, which says the same of a message of TEI management as
-- the remark on its kind
abbrev pub said_beside : Bool → Remarks → Remarks
said_beside names r = if names then record r { identity = None } else r

abbrev pub class_mark : Class → List ℕ
class_mark Normal = []
class_mark Recovery = []
class_mark Violation = codes "violation: "

abbrev pub remark_words : Remark → List ℕ
remark_words r = class_mark (class_of r) ++ remark_text r
