-- The printed form of primitives and of refusals.
use Rattle.std.specs.Prelude.{ℕ, List, [], ◌∷◌, ◌++◌, codes}
use Rattle.std.specs.Fmt.{decimal}
use Rattle.lapd_frame.specs.Address.{sapi_value}
use Rattle.lapd_link.specs.Out.{word_of_out}
use Rattle.lapd_link.specs.Texts.{out_rest}
use Rattle.lapd_link_definition.specs.declared.out.Out.{Out}
use Rattle.lapd_link_definition.specs.declared.out.Out.TheVariants as out
use Rattle.lapd_link.specs.Refusal.{refusal_name}
use Rattle.lapd_table.specs.declared.link_id.LinkId.{LinkId}
use Rattle.lapd_tei.specs.declared.out.TeiOut.{TeiOut}
use Rattle.lapd_tei.specs.declared.out.TeiOut.TheVariants as tei
use Rattle.lapd_sides_links.specs.declared.primitive.Primitive.{Primitive}
use Rattle.lapd_sides_links.specs.declared.primitive.Primitive.TheVariants.{Of, Management}
use Rattle.lapd_sides_links.specs.declared.primitive.What.{What}
use Rattle.lapd_sides_links.specs.declared.primitive.What.TheVariants as what
use Rattle.lapd_sides_links.specs.declared.side_fault.SideKind.{SideKind}
use Rattle.lapd_sides_links.specs.declared.side_fault.SideKind.TheVariants as kind

-- the link that a primitive is about: its SAPI and its TEI, each followed by a space
abbrev pub id_text : LinkId → List ℕ
id_text id = decimal (sapi_value id.sapi) ++ 32 ∷ decimal id.tei ++ 32 ∷ []

-- the first word of a link's primitive: that of its output
abbrev pub what_word : What → List ℕ
what_word (what.Up octets) = word_of_out out.Up
what_word (what.UnitUp octets) = word_of_out out.UnitUp
what_word what.Established = word_of_out out.Established
what_word what.Confirmed = word_of_out out.Confirmed
what_word what.Released = word_of_out out.Released
what_word what.ReleaseConfirm = word_of_out out.ReleaseConfirm
what_word (what.Acknowledged n) = word_of_out (out.Acknowledged n)
what_word (what.Dropped n) = word_of_out (out.Dropped n)
what_word (what.Report letter) = word_of_out (out.Report letter)

-- the rest of a link's primitive: that of its output
abbrev pub what_rest : What → List ℕ
what_rest (what.Up octets) = out_rest octets out.Up
what_rest (what.UnitUp octets) = out_rest octets out.UnitUp
what_rest (what.Acknowledged n) = out_rest [] (out.Acknowledged n)
what_rest (what.Dropped n) = out_rest [] (out.Dropped n)
what_rest (what.Report letter) = out_rest [] (out.Report letter)
what_rest other = []

abbrev pub what_text : What → List ℕ
what_text w = what_word w ++ what_rest w

-- an outcome of TEI management; messages and timers are not printed
abbrev pub outcome_text : TeiOut → List ℕ
outcome_text (tei.Given tei) = codes "tei given " ++ decimal tei
outcome_text (tei.Got tei) = codes "tei got " ++ decimal tei
outcome_text (tei.Gone tei) = codes "tei gone " ++ decimal tei
outcome_text tei.Failed = codes "tei failed"
outcome_text (tei.Free tei) = codes "tei free " ++ decimal tei
outcome_text (tei.InUse tei) = codes "tei in-use " ++ decimal tei
outcome_text (tei.Doubled tei) = codes "tei doubled " ++ decimal tei
outcome_text other = []

abbrev pub primitive_text : Primitive → List ℕ
primitive_text (Of id w) = id_text id ++ what_text w
primitive_text (Management outcome) = outcome_text outcome

-- why a side refuses
abbrev pub kind_text : SideKind → List ℕ
kind_text kind.NoLink = codes "B1 NoLink"
kind_text kind.Memory = codes "B3 Memory"
kind_text (kind.Link fault) = refusal_name fault
