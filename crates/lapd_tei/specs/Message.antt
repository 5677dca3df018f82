-- TEI messages (Q.921 5.3.6, Table 8): their octets, and the first fault of octets that do not form
-- one.
use Rattle.std.specs.Prelude.{◌≡◌, ℕ, ◌+◌, ◌*◌, ◌/◌, ◌%◌, ◌≤◌, ◌<◌, ◌==◌, ◌&&◌, ◌||◌, not, if◌then◌else◌, Bool, true, false, List, [], ◌∷◌, codes, Option, Some, None, Result, Ok, Err}
use Rattle.lapd_frame.specs.declared.Sapi.TheVariants.{Management}
use Rattle.lapd_frame.specs.declared.Role.TheVariants.{Command}
use Rattle.lapd_frame.specs.declared.Control.TheVariants.{Ui}
use Rattle.lapd_frame.specs.Frame.{Fields}
use Rattle.lapd_tei.specs.declared.message.TeiMessage.{TeiMessage}
use Rattle.lapd_tei.specs.declared.kind.TeiKind.{TeiKind}
use Rattle.lapd_tei.specs.declared.kind.TeiKind.TheVariants.{Request, Assigned, Denied, CheckRequest, CheckResponse, Remove, Verify}
use Rattle.lapd_tei.specs.declared.fault.TeiFault.{TeiFault}
use Rattle.lapd_tei.specs.declared.fault.TeiFault.TheVariants.{NotManagement, BadLength, BadKind, BadAi}

-- the management entity identifier (5.3.6.2), and the group TEI
abbrev pub management_entity : ℕ
management_entity = 0x0F

abbrev pub group_tei : ℕ
group_tei = 127

-- the message type (5.3.6.4, Table 8)
abbrev pub kind_number : TeiKind → ℕ
kind_number Request = 1
kind_number Assigned = 2
kind_number Denied = 3
kind_number CheckRequest = 4
kind_number CheckResponse = 5
kind_number Remove = 6
kind_number Verify = 7

abbrev pub kind_at : ℕ → Option TeiKind
kind_at n =
    if n == 1 then Some Request else (if n == 2 then Some Assigned else (
    if n == 3 then Some Denied else (if n == 4 then Some CheckRequest else (
    if n == 5 then Some CheckResponse else (if n == 6 then Some Remove else (
    if n == 7 then Some Verify else None))))))

-- Whether the action indicator may be the group TEI (5.3.6.5, Table 8). An assignment, a check
-- response and a verification each name a single terminal.
abbrev pub may_name_the_group : TeiKind → Bool
may_name_the_group Assigned = false
may_name_the_group CheckResponse = false
may_name_the_group Verify = false
may_name_the_group kind = true

-- the five octets: the management entity, Ri high and low, the message type, and Ai with its
-- extension bit set (5.3.6)
abbrev pub message_octets : TeiMessage → List ℕ
message_octets m = management_entity ∷ (m.ri / 256) ∷ (m.ri % 256) ∷ kind_number m.kind
    ∷ (m.ai * 2 + 1) ∷ []

abbrev pub permits : TeiKind → ℕ → Bool
permits kind ai = may_name_the_group kind || not (ai == group_tei)

-- the values of a valid message
pub record IsMessage (m : TeiMessage) : Type 0 where
  pub ri : m.ri < 65536
  pub ai : m.ai ≤ 127
  pub named : permits m.kind m.ai ≡ true

-- the message that five octets form, or the first of the faults M1 to M4
abbrev pub with_ai : ℕ → TeiKind → ℕ → Result TeiMessage TeiFault
with_ai ri kind last = if (last % 2 == 1) && permits kind (last / 2)
    then Ok (record { ri = ri; kind = kind; ai = last / 2 }) else Err BadAi

abbrev pub with_kind : ℕ → Option TeiKind → ℕ → Result TeiMessage TeiFault
with_kind ri None last = Err BadKind
with_kind ri (Some kind) last = with_ai ri kind last

abbrev pub behind_entity : List ℕ → Result TeiMessage TeiFault
behind_entity (high ∷ low ∷ kind ∷ last ∷ []) = with_kind (high * 256 + low) (kind_at kind) last
behind_entity octets = Err BadLength

abbrev pub message_at : List ℕ → Result TeiMessage TeiFault
message_at [] = Err NotManagement
message_at (entity ∷ rest) = if entity == management_entity then behind_entity rest
    else Err NotManagement

-- the UI command, SAPI 63 and the group TEI, that carries a message (5.3.6.1)
abbrev pub frame_of_message : TeiMessage → Fields
frame_of_message m = record {
  address = record {
    sapi = Management;
    tei = group_tei;
    role = Command;
  };
  control = Ui false;
  info = message_octets m;
}

abbrev pub tei_fault_name : TeiFault → List ℕ
tei_fault_name NotManagement = codes "M1 NotManagement"
tei_fault_name BadLength = codes "M2 BadLength"
tei_fault_name BadKind = codes "M3 BadKind"
tei_fault_name BadAi = codes "M4 BadAi"
