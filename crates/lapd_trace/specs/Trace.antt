-- The line of text for octets in a trace: a frame by the names of its fields, or a fault.
use Rattle.std.specs.Prelude.{ℕ, Bool, true, false, List, [], ◌∷◌, ◌++◌, codes, Result, Ok, Err}
use Rattle.std.specs.Fmt.{decimal}
use Rattle.hex.specs.Hex.{encode_lower}
use Rattle.lapd_frame.specs.declared.Side.{Side}
use Rattle.lapd_frame.specs.declared.Side.TheVariants.{Network, User}
use Rattle.lapd_frame.specs.declared.Role.{Role}
use Rattle.lapd_frame.specs.declared.Role.TheVariants.{Command, Answer}
use Rattle.lapd_frame.specs.declared.Address.{Address}
use Rattle.lapd_frame.specs.declared.Control.{Control}
use Rattle.lapd_frame.specs.declared.Control.TheVariants.{I, Rr, Rnr, Rej, Sabme, Dm, Ui, Disc, Ua, Frmr, Xid}
use Rattle.lapd_frame.specs.Address.{sapi_value}
use Rattle.lapd_frame.specs.declared.FrameFault.{FrameFault}
use Rattle.lapd_frame.specs.Fault.{fault_name}
use Rattle.lapd_frame.specs.Frame.{Fields}
use Rattle.lapd_frame.specs.Reading.{frame_at}

-- who sent it, the user or the network
abbrev pub direction_text : Side → List ℕ
direction_text User = codes "U>N "
direction_text Network = codes "N>U "

-- a command or a response (Q.921 3.3.2)
abbrev pub role_text : Role → List ℕ
role_text Command = codes " C "
role_text Answer = codes " R "

-- the poll bit of a command, the final bit of a response (Q.921 3.5.1)
abbrev pub poll_text : Role → Bool → List ℕ
poll_text Command false = codes " P=0"
poll_text Command true = codes " P=1"
poll_text Answer false = codes " F=0"
poll_text Answer true = codes " F=1"

abbrev pub address_text : Address → List ℕ
address_text a = codes "SAPI " ++ (decimal (sapi_value a.sapi)
    ++ (codes " TEI " ++ (decimal a.tei ++ role_text a.role)))

-- each control field (Q.921 Table 5), in a frame with this role
abbrev pub control_text : Role → Control → List ℕ
control_text role (I ns nr p) = codes "I N(S)="
    ++ (decimal ns ++ (codes " N(R)=" ++ (decimal nr ++ poll_text role p)))
control_text role (Rr nr pf) = codes "RR N(R)=" ++ (decimal nr ++ poll_text role pf)
control_text role (Rnr nr pf) = codes "RNR N(R)=" ++ (decimal nr ++ poll_text role pf)
control_text role (Rej nr pf) = codes "REJ N(R)=" ++ (decimal nr ++ poll_text role pf)
control_text role (Sabme p) = codes "SABME" ++ poll_text role p
control_text role (Dm f) = codes "DM" ++ poll_text role f
control_text role (Ui p) = codes "UI" ++ poll_text role p
control_text role (Disc p) = codes "DISC" ++ poll_text role p
control_text role (Ua f) = codes "UA" ++ poll_text role f
control_text role (Frmr f) = codes "FRMR" ++ poll_text role f
control_text role (Xid pf) = codes "XID" ++ poll_text role pf

-- these words, then these octets in hexadecimal; nothing if there are no octets
abbrev pub octets_text : List ℕ → List ℕ → List ℕ
octets_text words [] = []
octets_text words (octet ∷ octets) = words ++ encode_lower (octet ∷ octets)

abbrev pub frame_text : Fields → List ℕ
frame_text f = address_text f.address ++ (control_text f.address.role f.control
    ++ octets_text (codes " info=") f.info)

-- the line of a frame that this side sends
abbrev pub frame_line : Side → Fields → List ℕ
frame_line from f = direction_text from ++ frame_text f

-- a frame, or the first fault of these octets
abbrev pub text_of : List ℕ → Result Fields FrameFault → List ℕ
text_of octets (Ok frame) = frame_text frame
text_of octets (Err fault) = fault_name fault.kind ++ octets_text (codes " ") octets

-- the line for octets that this side sent
abbrev pub trace_line : Side → List ℕ → List ℕ
trace_line from octets = direction_text from ++ text_of octets (frame_at from octets)
