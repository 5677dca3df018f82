-- The primitives of a side as members of JSON objects.
use Rattle.std.specs.Prelude.{ℕ, List, [], ◌∷◌, codes}
use Rattle.serde_json.specs.Data.{Members, no_members}
use Rattle.lapd_frame.specs.Address.{sapi_value}
use Rattle.lapd_link.specs.Out.{letter_code}
use Rattle.lapd_cli_render.specs.Json.{with_number, with_octets, with_text}
use Rattle.lapd_table.specs.declared.link_id.LinkId.{LinkId}
use Rattle.lapd_tei.specs.declared.out.TeiOut.{TeiOut}
use Rattle.lapd_tei.specs.declared.out.TeiOut.TheVariants as tei
use Rattle.lapd_sides_links.specs.declared.primitive.Primitive.{Primitive}
use Rattle.lapd_sides_links.specs.declared.primitive.Primitive.TheVariants.{Of, Management}
use Rattle.lapd_sides_links.specs.declared.primitive.What.{What}
use Rattle.lapd_sides_links.specs.declared.primitive.What.TheVariants as what
use Rattle.lapd_sides_links.specs.Texts.{what_word}

-- the word of a primitive
abbrev pub with_primitive : List ℕ → Members → Members
with_primitive word members = with_text (codes "primitive") word members

-- its parameter: the octets, the number of messages, or the report
abbrev pub with_rest : What → Members → Members
with_rest (what.Up octets) members = with_octets (codes "info") octets members
with_rest (what.UnitUp octets) members = with_octets (codes "info") octets members
with_rest (what.Acknowledged count) members = with_number (codes "count") count members
with_rest (what.Dropped count) members = with_number (codes "count") count members
with_rest (what.Report letter) members =
    with_text (codes "report") (letter_code letter ∷ []) members
with_rest other members = members

-- of a link
abbrev pub with_what : What → Members → Members
with_what w members = with_rest w (with_primitive (what_word w) members)

abbrev pub with_link : LinkId → Members → Members
with_link id members =
    with_number (codes "tei") id.tei (with_number (codes "sapi") (sapi_value id.sapi) members)

-- of a TEI
abbrev pub with_tei : List ℕ → ℕ → Members → Members
with_tei word value members = with_number (codes "tei") value (with_primitive word members)

-- the outcome of a procedure of TEI management; its messages and timers are not passed to layer 3
abbrev pub with_outcome : TeiOut → Members → Members
with_outcome (tei.Given value) members = with_tei (codes "tei given") value members
with_outcome (tei.Got value) members = with_tei (codes "tei got") value members
with_outcome (tei.Gone value) members = with_tei (codes "tei gone") value members
with_outcome tei.Failed members = with_primitive (codes "tei failed") members
with_outcome (tei.Free value) members = with_tei (codes "tei free") value members
with_outcome (tei.InUse value) members = with_tei (codes "tei in-use") value members
with_outcome (tei.Doubled value) members = with_tei (codes "tei doubled") value members
with_outcome other members = members

abbrev pub with_primitive_members : Primitive → Members → Members
with_primitive_members (Of id w) members = with_what w (with_link id members)
with_primitive_members (Management outcome) members = with_outcome outcome members

-- the members for a primitive
abbrev pub primitive_members : Primitive → Members
primitive_members primitive = with_primitive_members primitive no_members
