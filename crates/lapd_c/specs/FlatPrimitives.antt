-- A primitive in the form that C reads: a kind, its numbers, and octets.
use Rattle.std.specs.Prelude.{ℕ, ◌==◌, if◌then◌else◌, List, [], length, Option, Some, None}
use Rattle.lapd_frame.specs.Address.{sapi_value, sapi_at, number_at}
use Rattle.lapd_frame.specs.declared.Sapi.{Sapi}
use Rattle.lapd_frame.specs.declared.Side.{Side}
use Rattle.lapd_frame.specs.declared.Side.TheVariants as side
use Rattle.lapd_link_definition.specs.Out.{letter_code}
use Rattle.lapd_tei.specs.declared.out.TeiOut.{TeiOut}
use Rattle.lapd_tei.specs.declared.out.TeiOut.TheVariants as tei
use Rattle.lapd_tei.specs.Message.{group_tei}
use Rattle.lapd_table.specs.declared.link_id.LinkId.{LinkId}
use Rattle.lapd_sides_links.specs.declared.primitive.Primitive.{Primitive}
use Rattle.lapd_sides_links.specs.declared.primitive.Primitive.TheVariants.{Of, Management}
use Rattle.lapd_sides_links.specs.declared.primitive.What.{What}
use Rattle.lapd_sides_links.specs.declared.primitive.What.TheVariants as what
use Rattle.lapd_c.specs.declared.flat_primitive.FlatPrimitive.{FlatPrimitive}

-- ---- Primitives of a link.

abbrev pub kind_of_link : What → ℕ
kind_of_link (what.Up octets) = 1
kind_of_link (what.UnitUp octets) = 2
kind_of_link what.Established = 3
kind_of_link what.Confirmed = 4
kind_of_link what.Released = 5
kind_of_link what.ReleaseConfirm = 6
kind_of_link (what.Acknowledged n) = 7
kind_of_link (what.Dropped n) = 8
kind_of_link (what.Report letter) = 9

-- the number of messages that were acknowledged or dropped
abbrev pub count_of : What → ℕ
count_of (what.Acknowledged n) = n
count_of (what.Dropped n) = n
count_of other = 0

-- the letter of an error report, as a character
abbrev pub letter_of : What → ℕ
letter_of (what.Report letter) = letter_code letter
letter_of other = 0

-- the octets for layer 3
abbrev pub octets_up : What → List ℕ
octets_up (what.Up octets) = octets
octets_up (what.UnitUp octets) = octets
octets_up other = []

-- ---- Outcomes of TEI management. A side reports only the last seven.

abbrev pub kind_of_outcome : TeiOut → ℕ
kind_of_outcome (tei.Send message) = 0
kind_of_outcome (tei.Start timer) = 0
kind_of_outcome (tei.Stop timer) = 0
kind_of_outcome (tei.Got own) = 16
kind_of_outcome (tei.Gone own) = 17
kind_of_outcome tei.Failed = 18
kind_of_outcome (tei.Given own) = 19
kind_of_outcome (tei.Free own) = 20
kind_of_outcome (tei.InUse own) = 21
kind_of_outcome (tei.Doubled own) = 22

-- the TEI of the outcome, or the group TEI if it has none
abbrev pub tei_of_outcome : TeiOut → ℕ
tei_of_outcome (tei.Got own) = own
tei_of_outcome (tei.Gone own) = own
tei_of_outcome (tei.Given own) = own
tei_of_outcome (tei.Free own) = own
tei_of_outcome (tei.InUse own) = own
tei_of_outcome (tei.Doubled own) = own
tei_of_outcome other = group_tei

-- ---- The whole primitive.

abbrev pub flat : Primitive → FlatPrimitive
flat (Of id delivered) = record {
  kind = kind_of_link delivered;
  sapi = sapi_value id.sapi;
  tei = id.tei;
  letter = letter_of delivered;
  count = count_of delivered;
  octets = length (octets_up delivered);
  reserved = 0;
}
flat (Management outcome) = record {
  kind = kind_of_outcome outcome;
  sapi = 63;
  tei = tei_of_outcome outcome;
  letter = 0;
  count = 0;
  octets = 0;
  reserved = 0;
}

-- the value that stands for no primitive
abbrev pub nothing : FlatPrimitive
nothing = record {
  kind = 0;
  sapi = 0;
  tei = 0;
  letter = 0;
  count = 0;
  octets = 0;
  reserved = 0;
}

-- a frame to send, in the same form
abbrev pub flat_frame : List ℕ → FlatPrimitive
flat_frame frame = record {
  kind = 32;
  sapi = 0;
  tei = 0;
  letter = 0;
  count = 0;
  octets = length frame;
  reserved = 0;
}

abbrev pub octets_of : Primitive → List ℕ
octets_of (Of id delivered) = octets_up delivered
octets_of (Management outcome) = []

-- ---- A link named by C: SAPI 0, 16 or 63, and TEI 0 to 127.

abbrev pub id_with : Option Sapi → Option ℕ → Option LinkId
id_with (Some sapi) (Some tei) = Some (record { sapi = sapi; tei = tei })
id_with (Some sapi) None = None
id_with None tei = None

abbrev pub link_of : ℕ → ℕ → Option LinkId
link_of sapi tei = id_with (sapi_at sapi) (number_at tei)

-- a side named by C: the network side if the number is not 0
abbrev pub sender : ℕ → Side
sender network = if network == 0 then side.User else side.Network
