-- The entries that a running side prints and counts.
use Rattle.std.specs.Prelude.{◌≡◌, ℕ, ◌-◌, ◌&&◌, ◌||◌, ◌==◌, not, if◌then◌else◌, Bool, true, false, List, [], ◌∷◌, ◌++◌, length, take, fold, codes, Option}
use Rattle.std.specs.List.{list_any}
use Rattle.std.specs.Fmt.{decimal}
use Rattle.std.specs.Io.KnownBytes.{Appends}
use Rattle.lapd_frame.specs.declared.Side.{Side}
use Rattle.lapd_frame.specs.Address.{other_side}
use Rattle.lapd_trace.specs.Trace.{trace_line}
use Rattle.lapd_cli_render.specs.Json.{frame_members, object_text, text_members}
use Rattle.lapd_cli_script.specs.Line.{text_line}
use Rattle.lapd_sides_links.specs.declared.primitive.Primitive.{Primitive}
use Rattle.lapd_sides_links.specs.declared.side_fault.SideKind.{SideKind}
use Rattle.lapd_sides_links.specs.Texts.{kind_text}
use Rattle.lapd_cli_side_lines.specs.declared.line_style.LineStyle.{LineStyle}
use Rattle.lapd_cli_side_lines.specs.declared.line_style.LineStyle.TheVariants.{Text, Json}
use Rattle.lapd_cli_side_lines.specs.Primitives.{primitive_members}
use Rattle.lapd_cli_side_lines.specs.SideTexts.{frame_text_line, primitive_line}
use Rattle.lapd_cli_live_text.specs.AwaitedLine.{begins_as}
use Rattle.lapd_cli_live_text.specs.LineObjects.{words_object}
use Rattle.lapd_cli_live_text.specs.declared.stats.Stats.{Stats}
use Rattle.lapd_cli_live_text.specs.Stats.{received_counted, received_words, reports_words, sent_counted, sent_words, primitive_counted}
use Rattle.lapd_cli_wire.specs.declared.outside.Sending.{Sending}
use Rattle.lapd_cli_wire.specs.declared.outside.Sending.TheVariants as sending
use Rattle.lapd_cli_live.specs.declared.style.Style.{Style}
use Rattle.lapd_cli_live.specs.RecentOutput.{with_line}

-- Lines have this moment from here on. A frame is received, sent, or lost on purpose. A primitive
-- is passed to layer 3. A line consists of a name and a text, or of words and numbers.
pub data Entry : Type 0 where
  Dated : (now : ℕ) → Entry
  Received : (frame : List ℕ) → Entry
  Sent : (frame : List ℕ) → Entry
  Lost : (frame : List ℕ) → Entry
  Delivered : (primitive : Primitive) → Entry
  Named : (name text : List ℕ) → Entry
  Worded : (words : List ℕ) → Entry

-- a frame that was sent, or lost on purpose
abbrev pub sent_entry : List ℕ → Sending → Entry
sent_entry frame sending.Sent = Sent frame
sent_entry frame sending.Lost = Lost frame

-- a frame that was passed to the line, and its fate
pub record Outgoing : Type 0 where
  pub octets : List ℕ
  pub sending : Sending

abbrev pub octets_of : Outgoing → List ℕ
octets_of outgoing = outgoing.octets

abbrev pub outgoing_entry : Outgoing → Entry
outgoing_entry outgoing = sent_entry outgoing.octets outgoing.sending

-- a request is refused for this reason
abbrev pub refused : SideKind → Entry
refused kind = Named (codes "refused") (kind_text kind)

-- ---- Lines.

-- the line of an entry in words, with its line feed; some entries have none
abbrev pub words_line : Side → Entry → List ℕ
words_line own (Dated now) = []
words_line own (Received frame) = frame_text_line Text (other_side own) frame
words_line own (Sent frame) = frame_text_line Text own frame
words_line own (Lost frame) = text_line (codes "lost" ++ 32 ∷ trace_line own frame)
words_line own (Delivered primitive) = primitive_line Text primitive
words_line own (Named name text) = text_line (name ++ 32 ∷ text)
words_line own (Worded words) = text_line words

-- its JSON object
abbrev pub object_of : Side → Entry → List ℕ
object_of own (Dated now) = []
object_of own (Received frame) = object_text (frame_members (other_side own) frame)
object_of own (Sent frame) = object_text (frame_members own frame)
object_of own (Lost frame) = object_text (text_members (codes "lost") (trace_line own frame))
object_of own (Delivered primitive) = object_text (primitive_members primitive)
object_of own (Named name text) = object_text (text_members name text)
object_of own (Worded words) = words_object words

-- the line of a frame, which a quiet style leaves out
abbrev pub is_of_frame : Entry → Bool
is_of_frame (Received frame) = true
is_of_frame (Sent frame) = true
is_of_frame (Lost frame) = true
is_of_frame entry = false

abbrev pub unless_quiet : Style → List ℕ → List ℕ
unless_quiet style line = if style.quiet then [] else line

abbrev pub line_of : Style → Side → Entry → List ℕ
line_of style own entry =
    if is_of_frame entry then unless_quiet style (words_line own entry) else words_line own entry

-- ---- Printing.

-- the moment before a line, and a space
abbrev pub moment_text : Style → ℕ → List ℕ
moment_text style now = if style.time then decimal now ++ 32 ∷ [] else []

-- an object with the moment as its last member, before the closing brace
abbrev pub with_moment : ℕ → List ℕ → List ℕ
with_moment now object =
    take (length object - 1) object ++ codes ",\"time\":" ++ decimal now ++ codes "}"

abbrev pub timed_object : Style → ℕ → List ℕ → List ℕ
timed_object style now object = if style.time then with_moment now object else object

-- a line or an object, in this style
abbrev pub in_style : LineStyle → Style → ℕ → List ℕ → List ℕ → List ℕ
in_style Text style now line object = moment_text style now ++ line
in_style Json style now line object = text_line (timed_object style now object)

-- no line, or one that is printed
abbrev pub printed_line : Style → ℕ → List ℕ → List ℕ → List ℕ
printed_line style now [] object = []
printed_line style now (first ∷ line) object =
    in_style style.lines style now (first ∷ line) object

abbrev pub entry_text : Style → Side → ℕ → Entry → List ℕ
entry_text style own now entry =
    printed_line style now (line_of style own entry) (object_of own entry)

-- the moment after an entry
abbrev pub moment_after : ℕ → Entry → ℕ
moment_after now (Dated later) = later
moment_after now entry = now

-- the texts of some entries, from a moment on
abbrev pub entries_text : Style → Side → ℕ → List Entry → List ℕ
entries_text style own now [] = []
entries_text style own now (entry ∷ entries) =
    entry_text style own now entry ++ entries_text style own (moment_after now entry) entries

-- ---- Counting, and awaited lines.

abbrev pub counted : Side → Stats → Entry → Stats
counted own stats (Received frame) = received_counted stats (other_side own) frame
counted own stats (Sent frame) = sent_counted stats own frame
counted own stats (Lost frame) = sent_counted stats own frame
counted own stats (Delivered primitive) = primitive_counted stats primitive
counted own stats entry = stats

-- a line begins with the awaited words; if there are no words, no line is awaited, and some entries
-- have no line
abbrev pub begins_so : List ℕ → List ℕ → Bool
begins_so awaited [] = false
begins_so awaited (first ∷ line) = not (length awaited == 0) && begins_as awaited (first ∷ line)

abbrev pub is_awaited : Style → Side → List ℕ → Entry → Bool
is_awaited style own awaited entry = begins_so awaited (line_of style own entry)

-- ---- Lines that are kept for a later `expect`.

-- a printed line is kept, if lines are kept
abbrev pub line_kept : Bool → List ℕ → List (List ℕ) → List (List ℕ)
line_kept keeps [] kept = kept
line_kept keeps (first ∷ line) kept = with_line keeps (first ∷ line) kept

abbrev pub entry_kept : Style → Side → Bool → List (List ℕ) → Entry → List (List ℕ)
entry_kept style own keeps kept entry = line_kept keeps (line_of style own entry) kept

-- ---- A printer.

-- The printed text, if it is known; the moment of the lines; the counts; the awaited words, and
-- whether a line that begins with them was printed; whether printed lines are kept, and the kept
-- ones.
pub record Shown : Type 0 where
  pub text : Option (List ℕ)
  pub now : ℕ
  pub stats : Stats
  pub awaited : List ℕ
  pub matched : Bool
  pub keeps : Bool
  pub kept : List (List ℕ)

-- a printer has printed and counted exactly these entries
pub record Prints (style : Style) (own : Side) (entries : List Entry) (old new : Shown) : Type 0
  where
    pub text : Appends old.text new.text (entries_text style own old.now entries)
    pub now : new.now ≡ fold moment_after old.now entries
    pub stats : new.stats ≡ fold (counted own) old.stats entries
    pub awaited : new.awaited ≡ old.awaited
    pub matched : new.matched
        ≡ (old.matched || list_any (is_awaited style own old.awaited) entries)
    pub keeps : new.keeps ≡ old.keeps
    pub kept : new.kept ≡ fold (entry_kept style own old.keeps) old.kept entries

-- the three lines of statistics, including the number of discarded frames
abbrev pub stats_entries : Stats → ℕ → List Entry
stats_entries stats discarded = Worded (sent_words stats) ∷ Worded (received_words stats discarded)
    ∷ Worded (reports_words stats) ∷ []
