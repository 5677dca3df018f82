-- The lines that the commands `net` and `user` print: frames, primitives, refusals, and the end of
-- the input. With the style `Text`, a frame is printed as its trace line and a primitive in words.
-- With `Json`, each line is a JSON object.
use Rattle.std.specs.Prelude.{ℕ, List, [], ◌++◌, flat_map, codes, Result, Ok, Err, ⊤}
use Rattle.lapd_frame.specs.declared.Side.{Side}
use Rattle.lapd_trace.specs.Trace.{trace_line}
use Rattle.lapd_cli_render.specs.Json.{frame_members, object_text, text_members}
use Rattle.lapd_cli_script.specs.Line.{text_line}
use Rattle.lapd_tei.specs.declared.out.TeiOut.TheVariants as tei
use Rattle.lapd_sides_links.specs.declared.primitive.Primitive.{Primitive}
use Rattle.lapd_sides_links.specs.declared.primitive.Primitive.TheVariants.{Management}
use Rattle.lapd_sides_links.specs.declared.side_fault.SideFault.{SideFault}
use Rattle.lapd_sides_links.specs.declared.side_fault.SideKind.{SideKind}
use Rattle.lapd_sides_links.specs.Effects.{Effects}
use Rattle.lapd_sides_links.specs.Texts.{primitive_text, kind_text}
use Rattle.lapd_cli_side_lines.specs.Primitives.{primitive_members}
use Rattle.lapd_cli_side_lines.specs.declared.line_style.LineStyle.{LineStyle}
use Rattle.lapd_cli_side_lines.specs.declared.line_style.LineStyle.TheVariants.{Text, Json}

-- a primitive; messages and timers of TEI management have no line
abbrev pub styled_primitive : LineStyle → Primitive → List ℕ
styled_primitive Text primitive = primitive_text primitive
styled_primitive Json primitive = object_text (primitive_members primitive)

abbrev pub primitive_line : LineStyle → Primitive → List ℕ
primitive_line style (Management (tei.Send message)) = []
primitive_line style (Management (tei.Start timer)) = []
primitive_line style (Management (tei.Stop timer)) = []
primitive_line style primitive = text_line (styled_primitive style primitive)

abbrev pub primitives_text : LineStyle → List Primitive → List ℕ
primitives_text style primitives = flat_map (primitive_line style) primitives

-- a refusal, with its reason
abbrev pub refused_line : LineStyle → List ℕ → List ℕ
refused_line Text why = text_line (codes "refused " ++ why)
refused_line Json why = text_line (object_text (text_members (codes "refused") why))

-- of a request
abbrev pub refusal_line : LineStyle → SideKind → List ℕ
refusal_line style kind = refused_line style (kind_text kind)

-- `read` found the end of the input
abbrev pub end_line : LineStyle → List ℕ
end_line style = refused_line style (codes "S1 End")

-- a frame that this side sends
abbrev pub frame_text_line : LineStyle → Side → List ℕ → List ℕ
frame_text_line Text side octets = text_line (trace_line side octets)
frame_text_line Json side octets = text_line (object_text (frame_members side octets))

abbrev pub frames_text : LineStyle → Side → List (List ℕ) → List ℕ
frames_text style side frames = flat_map (frame_text_line style side) frames

-- the frames and the primitives of a call of this side, the frames first
abbrev pub acts_text : LineStyle → Side → List (List ℕ) → List Primitive → List ℕ
acts_text style side frames primitives =
    frames_text style side frames ++ primitives_text style primitives

-- the output of the call, or the refusal if the side refuses
abbrev pub answer_text : LineStyle → Side → Result ⊤ SideFault → Effects → List ℕ
answer_text style side (Ok done) acts = acts_text style side acts.frames acts.primitives
answer_text style side (Err fault) acts = refusal_line style fault.kind
