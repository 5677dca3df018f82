-- The transcript of `net` or `user`: each line of a script with the lines that it printed. From it
-- layer 3 reads the primitives of its links, and the messages of the `give` lines that were not
-- refused.
use Rattle.std.specs.Prelude.{◌≡◌, ℕ, Bool, true, false, List, [], ◌∷◌, ◌++◌, map, flat_map, Option, Some, None}
use Rattle.std.specs.Io.KnownBytes.{Appends}
use Rattle.lapd_frame.specs.declared.Side.{Side}
use Rattle.lapd_tei.specs.declared.out.TeiOut.TheVariants.{Got, Gone}
use Rattle.lapd_table.specs.declared.link_id.LinkId.{LinkId}
use Rattle.lapd_sides_links.specs.declared.primitive.Primitive.{Primitive}
use Rattle.lapd_sides_links.specs.declared.primitive.Primitive.TheVariants.{Management}
use Rattle.lapd_sides_links.specs.declared.side_fault.SideKind.{SideKind}
use Rattle.lapd_sides_links.specs.Links.{of_sapi}
use Rattle.lapd_cli_side_commands.specs.Served.{Devices}
use Rattle.lapd_cli_side_lines.specs.declared.line_style.LineStyle.{LineStyle}
use Rattle.lapd_cli_side_lines.specs.LineRequests.{LineRequest, Give}
use Rattle.lapd_cli_side_lines.specs.SideTexts.{end_line, frame_text_line, primitive_line, refusal_line}

-- ---- The printed lines.

-- A printed line: a frame that a side sent, a primitive, the reason why a request was refused, or
-- the end of the input. The line of a primitive begins with the SAPI and the TEI of its link and
-- its word, as in `0 64 data 0102` and `0 64 acknowledged 1`.
pub data PrintedLine : Type 0 where
  Frame : (from : Side) → (octets : List ℕ) → PrintedLine
  Delivered : (primitive : Primitive) → PrintedLine
  Refusal : (kind : SideKind) → PrintedLine
  InputEnd : PrintedLine

abbrev pub line_text : LineStyle → PrintedLine → List ℕ
line_text style (Frame from octets) = frame_text_line style from octets
line_text style (Delivered primitive) = primitive_line style primitive
line_text style (Refusal kind) = refusal_line style kind
line_text style InputEnd = end_line style

abbrev pub lines_text : LineStyle → List PrintedLine → List ℕ
lines_text style lines = flat_map (line_text style) lines

-- a line of a script, and the lines that it printed
pub record ExecutedLine : Type 0 where
  pub line_request : LineRequest
  pub printed : List PrintedLine

abbrev pub transcript_text : LineStyle → List ExecutedLine → List ℕ
transcript_text style transcript =
    flat_map (λ executed. lines_text style executed.printed) transcript

-- The transcript has the lines of the script, in order, and its text is exactly what was printed.
pub record IsTranscript (transcript : List ExecutedLine) (line_requests : List LineRequest)
    (before after : Devices) : Type 0 where
  pub lines : map (λ executed. executed.line_request) transcript ≡ line_requests
  pub text : Appends before.printed after.printed (transcript_text before.style transcript)

-- ---- The primitives.

abbrev pub primitives_in : List PrintedLine → List Primitive
primitives_in [] = []
primitives_in (Delivered primitive ∷ lines) = primitive ∷ primitives_in lines
primitives_in (other ∷ lines) = primitives_in lines

abbrev pub primitives_of : List ExecutedLine → List Primitive
primitives_of transcript = flat_map (λ executed. primitives_in executed.printed) transcript

-- ---- The messages submitted.

-- the lines report a refusal
abbrev pub is_refused : List PrintedLine → Bool
is_refused (Refusal kind ∷ lines) = true
is_refused other = false

-- The message of a `give` line, with its link, unless the line was refused. `link` maps the SAPI
-- and TEI in the line to the link that the side uses.
abbrev pub submitted_in : (LinkId → LinkId) → LineRequest → Bool → List (LinkId × List ℕ)
submitted_in link (Give id message) false = (link id, message) ∷ []
submitted_in link other refused = []

-- The messages of all lines, in order. The link of a line depends on the primitives printed before.
abbrev pub submitted_after : (List Primitive → LinkId → LinkId) → List Primitive
    → List ExecutedLine → List (LinkId × List ℕ)
submitted_after link before [] = []
submitted_after link before (executed ∷ transcript) =
    submitted_in (link before) executed.line_request (is_refused executed.printed)
    ++ submitted_after link (before ++ primitives_in executed.printed) transcript

-- `net` submits a message on the link that the line names
abbrev pub named_link : List Primitive → LinkId → LinkId
named_link before id = id

abbrev pub submitted_by_network : List ExecutedLine → List (LinkId × List ℕ)
submitted_by_network transcript = submitted_after named_link [] transcript

-- `user` submits a message on the link with the SAPI that the line names and the side's own TEI:
-- the fixed one, until `tei got` prints another or `tei gone` prints that it is removed.
abbrev pub tei_after : Option ℕ → Primitive → Option ℕ
tei_after own (Management (Got tei)) = Some tei
tei_after own (Management (Gone tei)) = None
tei_after own other = own

abbrev pub own_tei : Option ℕ → List Primitive → Option ℕ
own_tei own [] = own
own_tei own (primitive ∷ primitives) = own_tei (tei_after own primitive) primitives

abbrev pub with_own_tei : Option ℕ → LinkId → LinkId
with_own_tei None id = id
with_own_tei (Some own) id = of_sapi id.sapi own

abbrev pub own_link : Option ℕ → List Primitive → LinkId → LinkId
own_link fixed before id = with_own_tei (own_tei fixed before) id

abbrev pub submitted_by_user : Option ℕ → List ExecutedLine → List (LinkId × List ℕ)
submitted_by_user fixed transcript = submitted_after (own_link fixed) [] transcript
