-- The text that is printed for frames, and the state after them.
use Rattle.std.specs.Prelude.{◌≡◌, ℕ, Bool, true, false, nat_lt, if◌then◌else◌, List, [], ◌++◌, Option, Some, None, unwrap_or, Result, Ok, Err, ⊤}
use Rattle.std.specs.Io.KnownBytes.{Appends, Keeps}
use Rattle.lapd_frame.specs.declared.Side.{Side}
use Rattle.lapd_frame.specs.declared.Side.TheVariants.{Network}
use Rattle.lapd_frame.specs.Reading.{frame_at}
use Rattle.lapd_cli_render.specs.declared.Packet.{Packet}
use Rattle.lapd_follow.specs.declared.packet.Packet.{Packet as FollowedPacket}
use Rattle.lapd_follow.specs.declared.remarks.Remarks.{Remarks}
use Rattle.lapd_follow.specs.Ends.{one_more}
use Rattle.lapd_follow.specs.Listening.{Listening, listening_after, listening_anew, new_listening, no_remarks, said_of_octets}
use Rattle.lapd_cli_script.specs.Line.{text_line}
use Rattle.lapd_cli_script.specs.declared.script.LineFault.{LineFault}
use Rattle.lapd_cli_script.specs.declared.script.LineFault.TheVariants.{Bad, Device as LineDevice, Memory as LineMemory}
use Rattle.lapd_cli_script.specs.declared.script.ScriptFault.{ScriptFault}
use Rattle.lapd_cli_script.specs.declared.script.ScriptFault.TheVariants.{BadLine, Device, Memory, Port}
use Rattle.lapd_cli_frames.specs.declared.frame_printer.Follow.{Follow}
use Rattle.lapd_cli_frames.specs.declared.frame_printer.Origin.{Origin}
use Rattle.lapd_cli_frames.specs.declared.frame_printer.Origin.TheVariants.{Script, Capture}
use Rattle.lapd_cli_frames.specs.declared.frame_style.FrameStyle.{FrameStyle}
use Rattle.lapd_cli_frames.specs.declared.frame_style.Layout.{Layout}
use Rattle.lapd_cli_frames.specs.declared.frame_style.Layout.TheVariants.{Lines, Drawn}
use Rattle.lapd_cli_frames.specs.declared.style.Style.{Style}
use Rattle.lapd_cli_frames.specs.AnySapi.{has_other_sapi, with_sapi_0}
use Rattle.lapd_cli_frames.specs.Color.{color_of, colored}
use Rattle.lapd_cli_frames.specs.Drawn.{drawn_frame}
use Rattle.lapd_cli_frames.specs.Filter.{reaches, takes_by}
use Rattle.lapd_cli_frames.specs.Missing.{missing_before}
use Rattle.lapd_cli_frames.specs.Remarked.{remarked}
use Rattle.lapd_cli_frames.specs.ShownText.{shown_text}
use Rattle.lapd_cli_frames.specs.Style.{styled_packet, styled_text}
use Rattle.lapd_cli_frames.specs.Tables.{tables_text}
use Rattle.lapd_cli_frames.specs.Time.{either, front_text, time_of}
use Rattle.lapd_zone.specs.Zone.{ZoneTable, utc_table}

-- how frames are printed, the zone of dates, how many there were, whether one of them is certainly the user side's,
-- how many of them were printed, when the first and the last of these were captured, as far as
-- known, how many the capture says to lack, and what a listener knows of the links, if they are
-- followed
pub record Printing : Type 0 where
  pub origin : Origin
  pub how : FrameStyle
  pub zone : ZoneTable
  pub frames : ℕ
  pub has_user : Bool
  pub printed : ℕ
  pub first : Option ℕ
  pub last : Option ℕ
  pub missing : ℕ
  pub listening : Option Listening

-- before the first frame
abbrev pub listening_by : Option Follow → Option Listening
listening_by None = None
listening_by (Some follow) = Some (new_listening follow.k)

abbrev pub new_printing : Origin → FrameStyle → Option Follow → Printing
new_printing origin how follow = record {
  origin = origin;
  how = how;
  zone = utc_table;
  frames = 0;
  has_user = false;
  printed = 0;
  first = None;
  last = None;
  missing = 0;
  listening = listening_by follow;
}

-- with dates in another zone than UTC
abbrev pub in_zone : ZoneTable → Printing → Printing
in_zone zone s = record s { zone = zone }

-- all requested frames are printed
abbrev pub is_complete : Printing → Bool
is_complete s = reaches s.how.count s.printed

-- ---- One frame: its packet, the side that sent it, if it is known, and its octets.

-- the packet of the next line of a script, at this moment: its number is its place among the frames
abbrev pub line_packet : Option ℕ → Printing → Packet
line_packet moment s = record { number = one_more s.frames; moment = moment; is_cut = false }

-- a packet, for a listener
abbrev pub followed_packet : Packet → FollowedPacket
followed_packet packet = record { number = packet.number; moment = packet.moment }

-- the remarks on a frame, if its link is followed; none if the sender is not known
abbrev pub said_by : FollowedPacket → Option Side → List ℕ → Option Listening → Option Remarks
said_by packet from octets None = None
said_by packet None octets (Some l) = Some no_remarks
said_by packet (Some from) octets (Some l) = Some (said_of_octets packet from octets l)

-- these remarks, if links are followed
abbrev pub said_if : Bool → Remarks → Option Remarks
said_if is_followed said = if is_followed then Some said else None

-- what a listener knows after it; a frame without a known sender is not followed
abbrev pub heard_by : FollowedPacket → Option Side → List ℕ → Option Listening → Option Listening
heard_by packet from octets None = None
heard_by packet None octets (Some l) = Some l
heard_by packet (Some from) octets (Some l) = Some (listening_after packet from octets l)

-- ---- Frames that the capture says to lack, this many in all.

-- the line about those that no line was about yet
abbrev pub missing_text : ℕ → Printing → List ℕ
missing_text total s = missing_before s.how.layout s.how.style s.missing total

-- what a listener knows behind them
abbrev pub anew : Option Listening → Option Listening
anew None = None
anew (Some l) = Some (listening_anew l)

-- what is known behind them: the links are followed anew
abbrev pub after_missing : ℕ → Printing → Printing
after_missing total s = if nat_lt s.missing total
    then record s { missing = total; listening = anew s.listening } else s

-- ---- The text of a frame.

-- the text of a frame without remarks, if its sender is known and its SAPI served
abbrev pub sent_text : Origin → Style → Packet → Side → List ℕ → List ℕ
sent_text Script style packet from octets = styled_text style from octets
sent_text Capture style packet from octets = styled_packet style packet from octets

-- only a packet of a capture is printed
abbrev pub shown_packet : Origin → Packet → Option Packet
shown_packet Script packet = None
shown_packet Capture packet = Some packet

-- the text of a frame without remarks, whose SAPI is another one if the first argument is true.
-- Both sides read octets alike whose sender is not known, but for the role.
abbrev pub bare_text : Bool → Origin → Style → Packet → Option Side → List ℕ → List ℕ
bare_text true origin style packet from octets = shown_text style packet.is_cut
    (shown_packet origin packet) from octets
    (frame_at (unwrap_or from Network) (with_sapi_0 octets))
bare_text false origin style packet None octets = shown_text style packet.is_cut
    (shown_packet origin packet) None octets (frame_at Network octets)
bare_text false origin style packet (Some from) octets = sent_text origin style packet from octets

-- the line of a frame that is printed, with these remarks
abbrev pub line_with : Option Remarks → Packet → Option Side → List ℕ → Printing → List ℕ
line_with said packet from octets s = text_line (colored s.how.is_colored s.how.style
    (color_of from said) (remarked s.how.style said
    (front_text s.how.style s.how.time (time_of s.how.time s.zone s.first s.last packet.moment)
    ++ bare_text (has_other_sapi s.how.any_sapi octets) s.origin s.how.style packet from octets)))

-- the text of a frame that is printed, in this layout: a line, or its part of a drawing
abbrev pub text_by : Layout → Option Remarks → Packet → Option Side → List ℕ → Printing → List ℕ
text_by Lines said packet from octets s = line_with said packet from octets s
text_by (Drawn drawing) said packet from octets s = drawn_frame drawing s.how s.printed packet
    (time_of s.how.time s.zone s.first s.last packet.moment) from octets said s.listening

abbrev pub text_with : Option Remarks → Packet → Option Side → List ℕ → Printing → List ℕ
text_with said packet from octets s = text_by s.how.layout said packet from octets s

-- what is known after a frame that is printed and was captured at this moment
abbrev pub after_shown : Option ℕ → Printing → Printing
after_shown moment s = record s {
  printed = one_more s.printed;
  first = either s.first moment;
  last = either moment s.last;
}

-- what is known after a frame that is not printed
abbrev pub after_heard : Packet → Option Side → List ℕ → Printing → Printing
after_heard packet from octets s = record s {
  frames = one_more s.frames;
  listening = heard_by (followed_packet packet) from octets s.listening;
}

-- the text of a frame: nothing if it is filtered out; a ladder shows what is known after it
abbrev pub frame_text : Packet → Option Side → List ℕ → Printing → List ℕ
frame_text packet from octets s = if takes_by s.how.once s.how.filter
    (said_by (followed_packet packet) from octets s.listening) octets
    then text_with (said_by (followed_packet packet) from octets s.listening) packet from octets
    (after_heard packet from octets s)
    else []

-- what is known after it: each frame is followed
abbrev pub after_frame : Packet → Option Side → List ℕ → Printing → Printing
after_frame packet from octets s = if takes_by s.how.once s.how.filter
    (said_by (followed_packet packet) from octets s.listening) octets
    then after_shown packet.moment (after_heard packet from octets s)
    else after_heard packet from octets s

-- how printing a line ends, and what is known then
abbrev pub PrintEnds : List ℕ → Printing → Result ⊤ LineFault → Printing → Option (List ℕ)
    → Option (List ℕ) → Type 0
PrintEnds line next (Ok done) now old new = (now ≡ next) × Appends old new line
PrintEnds line next (Err LineMemory) now old new = Keeps old new
PrintEnds line next (Err LineDevice) now old new = ⊤
PrintEnds line next (Err Bad) now old new = ⊥

-- ---- After the last frame.

-- the tables of the links, if these are followed
abbrev pub tables_of : Style → Option Listening → List ℕ
tables_of style None = []
tables_of style (Some l) = tables_text style l.tallies

-- a drawing has none
abbrev pub closing_by : Layout → Style → Option Listening → List ℕ
closing_by Lines style listening = tables_of style listening
closing_by (Drawn drawing) style listening = []

abbrev pub closing_text : Printing → List ℕ
closing_text s = closing_by s.how.layout s.how.style s.listening

-- whether a remark was a violation
abbrev pub is_violated_by : Option Listening → Bool
is_violated_by None = false
is_violated_by (Some l) = l.is_violated

-- how printing this text at the end ends
abbrev pub ClosingEnds : List ℕ → Option Listening → Result Bool ScriptFault → Option (List ℕ)
    → Option (List ℕ) → Type 0
ClosingEnds text listening (Ok is_violated) old new =
    Appends old new text × (is_violated ≡ is_violated_by listening)
ClosingEnds text listening (Err Memory) old new = Keeps old new
ClosingEnds text listening (Err Device) old new = ⊤
ClosingEnds text listening (Err (BadLine number)) old new = ⊥
ClosingEnds text listening (Err (Port fault)) old new = ⊥
