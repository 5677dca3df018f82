-- Octets that a side sent as a JSON object: a frame by the names of its fields, or a fault.
use Rattle.std.specs.Prelude.{ℕ, ◌==◌, if◌then◌else◌, Bool, true, false, List, [], ◌∷◌, codes, Result, Ok, Err}
use Rattle.hex.specs.Hex.{encode_lower}
use Rattle.serde_json.specs.Data.{Members, boolean, number, no_members, object, put, string, unsigned}
use Rattle.serde_json.specs.Written.{compact_text}
use Rattle.lapd_frame.specs.declared.Side.{Side}
use Rattle.lapd_frame.specs.declared.Side.TheVariants.{Network, User}
use Rattle.lapd_frame.specs.declared.Role.{Role}
use Rattle.lapd_frame.specs.declared.Role.TheVariants.{Command, Answer}
use Rattle.lapd_frame.specs.declared.Address.{Address}
use Rattle.lapd_frame.specs.declared.Control.{Control}
use Rattle.lapd_frame.specs.declared.Control.TheVariants.{I, Rr, Rnr, Rej, Sabme, Dm, Ui, Disc, Ua, Frmr, Xid}
use Rattle.lapd_frame.specs.Address.{sapi_value}
use Rattle.lapd_frame.specs.declared.FrameFault.{FrameFault}
use Rattle.lapd_frame.specs.Fault.{fault_name}
use Rattle.lapd_frame.specs.Frame.{Fields}
use Rattle.lapd_frame.specs.Reading.{frame_at}
use Rattle.lapd_cli_render.specs.Names.{names_text}

-- ---- Members.

abbrev pub with_text : List ℕ → List ℕ → Members → Members
with_text key text members = put key (string text) members

abbrev pub with_number : List ℕ → ℕ → Members → Members
with_number key value members = put key (number (unsigned value)) members

abbrev pub with_flag : List ℕ → Bool → Members → Members
with_flag key flag members = put key (boolean flag) members

-- who sent it, the user or the network
abbrev pub direction_text : Side → List ℕ
direction_text User = codes "U>N"
direction_text Network = codes "N>U"

-- a command or a response (Q.921 3.3.2)
abbrev pub role_text : Role → List ℕ
role_text Command = codes "command"
role_text Answer = codes "response"

-- the poll bit of a command, the final bit of a response (Q.921 3.5.1)
abbrev pub poll_key : Role → List ℕ
poll_key Command = codes "p"
poll_key Answer = codes "f"

abbrev pub bit : Bool → ℕ
bit false = 0
bit true = 1

abbrev pub with_poll : Role → Bool → Members → Members
with_poll role pf members = with_number (poll_key role) (bit pf) members

abbrev pub with_address : Address → Members → Members
with_address a members = with_text (codes "role") (role_text a.role)
    (with_number (codes "tei") a.tei (with_number (codes "sapi") (sapi_value a.sapi) members))

-- a frame of this name with a number (Q.921 3.6)
abbrev pub with_numbered : List ℕ → ℕ → Role → Bool → Members → Members
with_numbered name nr role pf members =
    with_poll role pf (with_number (codes "nr") nr (with_text (codes "frame") name members))

abbrev pub with_unnumbered : List ℕ → Role → Bool → Members → Members
with_unnumbered name role pf members = with_poll role pf (with_text (codes "frame") name members)

-- each control field (Q.921 Table 5), in a frame of this role
abbrev pub with_control : Role → Control → Members → Members
with_control role (I ns nr p) members =
    with_numbered (codes "I") nr role p (with_number (codes "ns") ns members)
with_control role (Rr nr pf) members = with_numbered (codes "RR") nr role pf members
with_control role (Rnr nr pf) members = with_numbered (codes "RNR") nr role pf members
with_control role (Rej nr pf) members = with_numbered (codes "REJ") nr role pf members
with_control role (Sabme p) members = with_unnumbered (codes "SABME") role p members
with_control role (Dm f) members = with_unnumbered (codes "DM") role f members
with_control role (Ui p) members = with_unnumbered (codes "UI") role p members
with_control role (Disc p) members = with_unnumbered (codes "DISC") role p members
with_control role (Ua f) members = with_unnumbered (codes "UA") role f members
with_control role (Frmr f) members = with_unnumbered (codes "FRMR") role f members
with_control role (Xid pf) members = with_unnumbered (codes "XID") role pf members

-- octets in hexadecimal, if there are any
abbrev pub with_octets : List ℕ → List ℕ → Members → Members
with_octets key [] members = members
with_octets key (octet ∷ octets) members = with_text key (encode_lower (octet ∷ octets)) members

abbrev pub with_frame : Fields → Members → Members
with_frame f members = with_octets (codes "info") f.info
    (with_control f.address.role f.control (with_address f.address members))

-- a frame, or the first fault of these octets
abbrev pub with_reading : List ℕ → Result Fields FrameFault → Members → Members
with_reading octets (Ok frame) members = with_frame frame members
with_reading octets (Err fault) members = with_octets (codes "octets") octets
    (with_text (codes "fault") (fault_name fault.kind) members)

-- the name of the message, from the text after a trace line: a space, and the words
abbrev pub with_message : List ℕ → Members → Members
with_message [] members = members
with_message (first ∷ words) members =
    if first == 32 then with_text (codes "message") words members else members

-- ---- Objects.

-- the members for octets that this side sent
abbrev pub frame_members : Side → List ℕ → Members
frame_members from octets = with_reading octets (frame_at from octets)
    (with_text (codes "direction") (direction_text from) no_members)

-- and the name of their message
abbrev pub named_members : Side → List ℕ → Members
named_members from octets = with_message (names_text from octets) (frame_members from octets)

-- the text of an object
abbrev pub object_text : Members → List ℕ
object_text members = compact_text (object members)

-- one text
abbrev pub text_members : List ℕ → List ℕ → Members
text_members key text = with_text key text no_members
