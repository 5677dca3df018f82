-- The part of a ladder, a picture, a page or a pcap file for a frame.
use Rattle.std.specs.Prelude.{ℕ, ◌==◌, ◌&&◌, if◌then◌else◌, Bool, true, false, List, [], ◌∷◌, ◌++◌, codes, flat_map, Option}
use Rattle.lapd_frame.specs.declared.Side.{Side}
use Rattle.lapd_follow.specs.declared.remarks.Remarks.{Remarks}
use Rattle.lapd_follow.specs.Listening.{Listening}
use Rattle.lapd_cli_render.specs.declared.Packet.{Packet}
use Rattle.lapd_cli_ladder.specs.declared.ladder.LadderStyle.{LadderStyle}
use Rattle.lapd_cli_ladder.specs.Ladder.{frame_lines, head_line}
use Rattle.lapd_cli_ladder.specs.Picture.{picture_part}
use Rattle.lapd_cli_page.specs.Row.{page_part}
use Rattle.lapd_cli_frames.specs.declared.frame_style.Drawing.{Drawing}
use Rattle.lapd_cli_frames.specs.declared.frame_style.Drawing.TheVariants.{Ladder, Picture, Page, Records}
use Rattle.lapd_cli_frames.specs.declared.frame_style.FrameStyle.{FrameStyle}
use Rattle.lapd_cli_frames.specs.Color.{color_end, is_violation}
use Rattle.lapd_cli_frames.specs.Record.{record_text}
use Rattle.lapd_cli_frames.specs.Style.{has_names}
use Rattle.lapd_cli_frames.specs.Time.{time_text, time_width}

abbrev pub ladder_of : FrameStyle → LadderStyle
ladder_of how = record { time_width = time_width how.time; names = has_names how.style }

-- the line above the first of the printed frames
abbrev pub head_before : LadderStyle → ℕ → List ℕ
head_before style printed = if printed == 0 then head_line style.time_width else []

-- lines in red, each by itself
abbrev pub red : List ℕ
red = 27 ∷ codes "[31m"

abbrev pub red_octet : ℕ → List ℕ
red_octet octet = if octet == 10 then color_end ++ (10 ∷ red) else octet ∷ []

abbrev pub red_lines : List ℕ → List ℕ
red_lines lines = red ++ (flat_map red_octet lines ++ color_end)

abbrev pub red_if : Bool → List ℕ → List ℕ
red_if false lines = lines
red_if true lines = red_lines lines

-- the part of a drawing for octets with this text of their time, of this sender if it is known,
-- after so many printed frames
abbrev pub drawn_part : Drawing → FrameStyle → ℕ → Packet → List ℕ → Option Side → List ℕ
    → Option Remarks → Option Listening → List ℕ
drawn_part Ladder how printed packet time from octets said listening =
    head_before (ladder_of how) printed ++ red_if (is_violation said && how.is_colored)
    (frame_lines (ladder_of how) packet time from octets said listening)
drawn_part Picture how printed packet time from octets said listening =
    picture_part (has_names how.style) printed packet time from octets said listening
drawn_part Page how printed packet time from octets said listening =
    page_part printed how.count packet from octets said listening
drawn_part Records how printed packet time from octets said listening =
    record_text packet from octets

-- the same for octets of this time
abbrev pub drawn_frame : Drawing → FrameStyle → ℕ → Packet → Option ℕ → Option Side → List ℕ
    → Option Remarks → Option Listening → List ℕ
drawn_frame drawing how printed packet time from octets said listening =
    drawn_part drawing how printed packet (time_text how.time time) from octets said listening
