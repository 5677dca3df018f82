-- The messages of TEI management (Q.921 5.3.6, Table 8), read from the frames that carry them.
use Rattle.std.specs.Prelude.{ℕ, ◌+◌, ◌*◌, ◌/◌, ◌%◌, ◌==◌, if◌then◌else◌, List, [], ◌∷◌, Option, Some, None}
use Rattle.lapd_frame.specs.declared.Side.{Side}
use Rattle.lapd_frame.specs.declared.Side.TheVariants.{Network, User}
use Rattle.lapd_frame.specs.declared.Sapi.{Sapi}
use Rattle.lapd_frame.specs.declared.Sapi.TheVariants.{Call, Packet, Management}
use Rattle.lapd_frame.specs.declared.Control.{Control}
use Rattle.lapd_frame.specs.declared.Control.TheVariants.{Ui}
use Rattle.lapd_frame.specs.Address.{number_at}
use Rattle.lapd_frame.specs.Frame.{Fields}
use Rattle.lapd_follow.specs.declared.identity.Identity.{Identity}
use Rattle.lapd_follow.specs.declared.identity.Identity.TheVariants.{Request, Assigned, Denied, CheckRequest, CheckResponse, Remove, Verify}

-- ---- The five octets: the management entity 0F, Ri high and low, the message type, and Ai with its
-- extension bit set.

-- an assignment, a check response and a verification name the TEI of one terminal, not the group
abbrev pub of_one : ℕ → Identity → Option Identity
of_one tei message = if tei == 127 then None else Some message

-- the types of messages that the user side sends
abbrev pub user_identity : ℕ → ℕ → ℕ → Option Identity
user_identity kind ri tei = if kind == 1 then Some (Request ri)
    else (if kind == 5 then of_one tei (CheckResponse tei ri)
    else (if kind == 7 then of_one tei (Verify tei) else None))

-- the types of messages that the network side sends
abbrev pub network_identity : ℕ → ℕ → ℕ → Option Identity
network_identity kind ri tei = if kind == 2 then of_one tei (Assigned tei ri)
    else (if kind == 3 then Some (Denied ri)
    else (if kind == 4 then Some (CheckRequest tei)
    else (if kind == 6 then Some (Remove tei) else None)))

abbrev pub identity_by : Side → ℕ → ℕ → ℕ → Option Identity
identity_by User kind ri tei = user_identity kind ri tei
identity_by Network kind ri tei = network_identity kind ri tei

abbrev pub with_ai : Side → ℕ → ℕ → Option ℕ → Option Identity
with_ai sender kind ri None = None
with_ai sender kind ri (Some tei) = identity_by sender kind ri tei

-- the message with this last octet
abbrev pub with_last : Side → ℕ → ℕ → ℕ → Option Identity
with_last sender kind ri last = if last % 2 == 1
    then with_ai sender kind ri (number_at (last / 2)) else None

abbrev pub behind_entity : Side → List ℕ → Option Identity
behind_entity sender (high ∷ low ∷ kind ∷ last ∷ []) =
    with_last sender kind (high * 256 + low) last
behind_entity sender octets = None

-- the message in this information, which this side sent
abbrev pub identity_in : Side → List ℕ → Option Identity
identity_in sender [] = None
identity_in sender (entity ∷ rest) = if entity == 0x0F then behind_entity sender rest else None

-- ---- A frame: UI, SAPI 63 and the group TEI (5.3.6.1).

abbrev pub identity_for : Side → Sapi → ℕ → List ℕ → Option Identity
identity_for sender Management tei info = if tei == 127 then identity_in sender info else None
identity_for sender Call tei info = None
identity_for sender Packet tei info = None

abbrev pub identity_under : Control → Side → Fields → Option Identity
identity_under (Ui p) sender f = identity_for sender f.address.sapi f.address.tei f.info
identity_under control sender f = None

-- the message in a frame that this side sent, if it carries one
abbrev pub identity_of : Side → Fields → Option Identity
identity_of sender f = identity_under f.control sender f

-- ---- The links that begin anew after a message.

-- the TEI whose links begin anew: it is assigned (5.3.2) or removed (5.3.4)
abbrev pub renewed : Identity → Option ℕ
renewed (Request ri) = None
renewed (Assigned tei ri) = Some tei
renewed (Denied ri) = None
renewed (CheckRequest tei) = None
renewed (CheckResponse tei ri) = None
renewed (Remove tei) = Some tei
renewed (Verify tei) = None
