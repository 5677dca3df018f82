-- The address field of a frame (Q.921 3.3): its octets as a function of its parts, and its parts
-- read from octets.
use Rattle.std.specs.Prelude.{ℕ, ◌+◌, ◌*◌, ◌/◌, ◌%◌, ◌≤◌, ◌==◌, ◌||◌, nat_le, if◌then◌else◌, Bool, true, false, List, [], ◌∷◌, codes, Option, Some, None, Result, Ok, Err}
use Rattle.lapd_field.specs.declared.sapi.Sapi.{Sapi}
use Rattle.lapd_field.specs.declared.sapi.Sapi.TheVariants.{Call, Packet, Management}
use Rattle.lapd_field.specs.declared.side.Side.{Side}
use Rattle.lapd_field.specs.declared.side.Side.TheVariants.{Network, User}
use Rattle.lapd_field.specs.declared.side.Role.{Role}
use Rattle.lapd_field.specs.declared.side.Role.TheVariants.{Command, Answer}
use Rattle.lapd_field.specs.declared.address.Address.{Address}
use Rattle.lapd_field.specs.declared.field_fault.FieldFault.{FieldFault}
use Rattle.lapd_field.specs.declared.field_fault.FieldFault.TheVariants.{BadAddress, SapiNotServed}

-- the side that receives what this side sends
abbrev pub other_side : Side → Side
other_side Network = User
other_side User = Network

abbrev pub side_name : Side → List ℕ
side_name Network = codes "network"
side_name User = codes "user"

-- the number of a service access point (Q.921 3.3.3)
abbrev pub sapi_value : Sapi → ℕ
sapi_value Call = 0
sapi_value Packet = 16
sapi_value Management = 63

-- the service access point with this number, if it is served
abbrev pub sapi_at : ℕ → Option Sapi
sapi_at n = if n == 0 then Some Call else (if n == 16 then Some Packet
    else (if n == 63 then Some Management else None))

-- a TEI (Q.921 3.3.4) or a sequence number (Q.921 3.5.2.1) with this value: seven bits
abbrev pub number_at : ℕ → Option ℕ
number_at n = if nat_le n 127 then Some n else None

-- The C/R bit (Q.921 3.3.2): the network sends its commands with 1 and its responses with 0, the
-- user the reverse.
abbrev pub command_bit : Side → Role → ℕ
command_bit Network Command = 1
command_bit Network Answer = 0
command_bit User Command = 0
command_bit User Answer = 1

-- the role of a frame by its C/R bit, `true` if the bit is set
abbrev pub role_of : Side → Bool → Role
role_of Network true = Command
role_of Network false = Answer
role_of User true = Answer
role_of User false = Command

-- The two octets: SAPI, C/R and EA = 0, then TEI and EA = 1 (Q.921 Figure 5).
abbrev pub address_octets : Side → Address → List ℕ
address_octets from a = (sapi_value a.sapi * 4 + command_bit from a.role * 2) ∷ (a.tei * 2 + 1) ∷ []

-- a TEI has seven bits
abbrev pub IsAddress : Address → Type 0
IsAddress a = a.tei ≤ 127

-- an extension bit is wrong: it must be 0 in the first octet and 1 in the second (Q.921 3.3.1)
abbrev pub is_badly_extended : ℕ → ℕ → Bool
is_badly_extended first second = (first % 2 == 1) || (second % 2 == 0)

-- the address with this service access point, or a fault if it is not served
abbrev pub with_sapi : Option Sapi → ℕ → Role → Result Address FieldFault
with_sapi None tei role = Err SapiNotServed
with_sapi (Some sapi) tei role = Ok (record { sapi = sapi; tei = tei; role = role })

-- the address in two octets that this side sent, or the fault
abbrev pub address_at : Side → List ℕ → Result Address FieldFault
address_at from [] = Err BadAddress
address_at from (first ∷ []) = Err BadAddress
address_at from (first ∷ second ∷ rest) = if is_badly_extended first second then Err BadAddress
    else with_sapi (sapi_at (first / 4)) (second / 2) (role_of from (first / 2 % 2 == 1))
