-- The JSON object of a frame whose sender is not known, or whose SAPI is not served. Members are in
-- the order of their names; `direction` and `role` are left out if the sender is not known.
use Rattle.std.specs.Prelude.{ℕ, Bool, true, false, List, [], ◌∷◌, ◌++◌, codes, Option, Some, None, Result, Ok, Err}
use Rattle.std.specs.Fmt.{decimal}
use Rattle.hex.specs.Hex.{encode_lower}
use Rattle.lapd_field.specs.Control.{poll_final}
use Rattle.lapd_frame.specs.declared.Side.{Side}
use Rattle.lapd_frame.specs.declared.Side.TheVariants.{Network, User}
use Rattle.lapd_frame.specs.declared.Role.{Role}
use Rattle.lapd_frame.specs.declared.Role.TheVariants.{Command, Answer}
use Rattle.lapd_frame.specs.declared.FrameFault.{FrameFault}
use Rattle.lapd_frame.specs.Fault.{fault_name}
use Rattle.lapd_frame.specs.Frame.{Fields}
use Rattle.lapd_cli_render.specs.declared.Packet.{Packet}
use Rattle.lapd_cli_ladder.specs.Parts.{name_of, nr_of, ns_of}
use Rattle.lapd_cli_ladder.specs.Words.{known_role}
use Rattle.lapd_cli_frames.specs.AnySapi.{sapi_of}
use Rattle.lapd_follow.specs.Texts.{seconds_digits}

-- ---- Members that an object may lack.

abbrev pub cut_member : Bool → List ℕ
cut_member false = []
cut_member true = codes "\"cut\":true,"

abbrev pub direction_member : Option Side → List ℕ
direction_member None = []
direction_member (Some User) = codes "\"direction\":\"U>N\","
direction_member (Some Network) = codes "\"direction\":\"N>U\","

-- the F bit of a response, the P bit of a command, or the P/F bit
abbrev pub f_member : Option Role → Bool → List ℕ
f_member (Some Answer) false = codes "\"f\":0,"
f_member (Some Answer) true = codes "\"f\":1,"
f_member (Some Command) pf = []
f_member None pf = []

abbrev pub p_member : Option Role → Bool → List ℕ
p_member (Some Command) false = codes ",\"p\":0"
p_member (Some Command) true = codes ",\"p\":1"
p_member (Some Answer) pf = []
p_member None pf = []

abbrev pub pf_member : Option Role → Bool → List ℕ
pf_member None false = codes ",\"pf\":0"
pf_member None true = codes ",\"pf\":1"
pf_member (Some role) pf = []

abbrev pub role_member : Option Role → List ℕ
role_member None = []
role_member (Some Command) = codes ",\"role\":\"command\""
role_member (Some Answer) = codes ",\"role\":\"response\""

abbrev pub number_member : List ℕ → Option ℕ → List ℕ
number_member words None = []
number_member words (Some number) = words ++ decimal number

abbrev pub octets_member : List ℕ → List ℕ → List ℕ
octets_member words [] = []
octets_member words (octet ∷ octets) = words ++ (encode_lower (octet ∷ octets) ++ codes "\"")

-- the number of the packet and the time of its capture, if the octets are of a capture
abbrev pub packet_member : Option Packet → List ℕ
packet_member None = []
packet_member (Some packet) = codes ",\"packet\":" ++ decimal packet.number

abbrev pub moment_member : Option ℕ → List ℕ
moment_member None = []
moment_member (Some moment) = codes ",\"time\":\"" ++ (seconds_digits moment ++ codes "\"")

abbrev pub time_member : Option Packet → List ℕ
time_member None = []
time_member (Some packet) = moment_member packet.moment

-- ---- Objects.

abbrev pub kind_members : Option Role → Fields → List ℕ
kind_members role f = f_member role (poll_final f.control) ++ (codes "\"frame\":\""
    ++ (name_of f.control ++ (codes "\"" ++ octets_member (codes ",\"info\":\"") f.info)))

abbrev pub numbers_members : Option Packet → Option Role → Fields → List ℕ
numbers_members packet role f = number_member (codes ",\"nr\":") (nr_of f.control)
    ++ (number_member (codes ",\"ns\":") (ns_of f.control)
    ++ (p_member role (poll_final f.control) ++ (packet_member packet
    ++ (pf_member role (poll_final f.control) ++ role_member role))))

-- a frame of this SAPI
abbrev pub frame_object : Option Packet → ℕ → Option Role → Fields → List ℕ
frame_object packet sapi role f = kind_members role f ++ (numbers_members packet role f
    ++ (codes ",\"sapi\":" ++ (decimal sapi ++ (codes ",\"tei\":" ++ decimal f.address.tei))))

-- the frame in these octets, or their first fault
abbrev pub reading_object : Option Packet → Option Side → List ℕ → Result Fields FrameFault
    → List ℕ
reading_object packet from octets (Ok f) =
    frame_object packet (sapi_of octets) (known_role from f.address.role) f
reading_object packet from octets (Err fault) = codes "\"fault\":\"" ++ (fault_name fault.kind
    ++ (codes "\"" ++ (octets_member (codes ",\"octets\":\"") octets ++ packet_member packet)))

-- the object of these octets, which were read as this
abbrev pub shown_object : Bool → Option Packet → Option Side → List ℕ
    → Result Fields FrameFault → List ℕ
shown_object is_cut packet from octets reading = codes "{" ++ (cut_member is_cut
    ++ (direction_member from ++ (reading_object packet from octets reading
    ++ (time_member packet ++ codes "}"))))
