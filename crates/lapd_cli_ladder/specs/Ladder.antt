-- A ladder: two upright lines, the user at the left and the network at the right. A frame is an
-- arrow between them. Left of it are its packet, its time and the user's end, right of it the
-- network's end; the notes on it are below.
use Rattle.std.specs.Prelude.{ℕ, ◌-◌, ◌==◌, if◌then◌else◌, Bool, true, false, List, [], ◌∷◌, ◌++◌, codes, drop, flat_map, Option, Some, None}
use Rattle.std.specs.Fmt.{decimal}
use Rattle.lapd_frame.specs.declared.Side.{Side}
use Rattle.lapd_frame.specs.declared.Side.TheVariants.{Network, User}
use Rattle.lapd_follow.specs.declared.remark.Remark.{Remark}
use Rattle.lapd_follow.specs.declared.remarks.Remarks.{Remarks}
use Rattle.lapd_follow.specs.Listening.{Listening}
use Rattle.lapd_cli_render.specs.Names.{names_text}
use Rattle.lapd_cli_render.specs.declared.Packet.{Packet}
use Rattle.lapd_cli_ladder.specs.declared.ladder.LadderStyle.{LadderStyle}
use Rattle.lapd_cli_ladder.specs.Columns.{at_left, at_right, filled, shortened}
use Rattle.lapd_cli_ladder.specs.Words.{frame_words, known_words, reading_of, remark_words, said_beside}

-- the words beside the line at the right, after a space
abbrev pub beside : List ℕ → List ℕ
beside [] = []
beside (octet ∷ words) = 32 ∷ octet ∷ words

-- a line: the packet, its time, the user's end, what is between the upright lines, the network's
-- end
abbrev pub line_front : ℕ → List ℕ → List ℕ → List ℕ → List ℕ
line_front width packet time user = at_right 6 packet ++ (codes " " ++ (at_right width time
    ++ (at_right 10 user ++ codes " |")))

abbrev pub line_back : List ℕ → List ℕ → List ℕ
line_back between network = between ++ (codes "|" ++ (beside network ++ codes "\n"))

abbrev pub ladder_line : ℕ → List ℕ → List ℕ → List ℕ → List ℕ → List ℕ → List ℕ
ladder_line width packet time user between network =
    line_front width packet time user ++ line_back between network

-- the line above the first frame; without times their column has no width
abbrev pub time_heading : ℕ → List ℕ
time_heading width = if width == 0 then [] else codes "time "

-- the columns between the upright lines: fewer beside times, so that 80 columns suffice
abbrev pub between_width : ℕ → ℕ
between_width width = if width == 0 then 48 else 36

abbrev pub blanks : ℕ → List ℕ
blanks width = if width == 0 then codes "                                                "
    else codes "                                    "

abbrev pub head_line : ℕ → List ℕ
head_line width = ladder_line width (codes "packet") (time_heading width) (codes "user")
    (blanks width) (codes "network")

-- ---- A frame.

-- its words in an arrow of this width, and dashes up to the head or the tail
abbrev pub labelled : ℕ → List ℕ → List ℕ
labelled between words = filled 45 (between - 4) (shortened (between - 6) words ++ codes " ")

-- the arrow from its sender to the other end; a line without a head if the sender is not known
abbrev pub arrow : ℕ → Option Side → List ℕ → List ℕ
arrow between (Some User) words = codes "-- " ++ (labelled between words ++ codes ">")
arrow between (Some Network) words = codes "<-- " ++ labelled between words
arrow between None words = codes "?- " ++ (labelled between words ++ codes "?")

-- the arrow of a frame that is lost: it ends before the other end
abbrev pub lost_label : List ℕ → List ℕ
lost_label words = filled 45 34 (shortened 32 words ++ codes " ")

abbrev pub lost_arrow : Side → List ℕ → List ℕ
lost_arrow User words = codes "-- " ++ (lost_label words ++ codes "X          ")
lost_arrow Network words = codes "          X-- " ++ lost_label words

abbrev pub arrow_or_lost : Bool → Side → List ℕ → List ℕ
arrow_or_lost false from words = arrow 48 (Some from) words
arrow_or_lost true from words = lost_arrow from words

-- the line of the octets that this side sent, and that arrive or are lost; beside it these words of
-- both ends
abbrev pub arrival_line : Bool → Side → List ℕ → List ℕ → List ℕ → List ℕ
arrival_line is_lost from octets user network = ladder_line 0 [] [] user
    (arrow_or_lost is_lost from
    (frame_words false (Some from) octets (reading_of (Some from) octets)))
    network

-- the line of octets, of this sender if it is known; beside it is what is known of both ends after
-- it
abbrev pub rung_line : LadderStyle → Packet → List ℕ → Option Side → List ℕ → Option Listening
    → List ℕ
rung_line style packet time from octets listening = ladder_line style.time_width
    (decimal packet.number) time (known_words User (reading_of from octets) listening)
    (arrow (between_width style.time_width) from
    (frame_words style.names from octets (reading_of from octets)))
    (known_words Network (reading_of from octets) listening)

-- ---- The notes on a frame, each in a line of its own.

abbrev pub note_line : ℕ → List ℕ → List ℕ
note_line width words = ladder_line width [] [] []
    (codes "  " ++ (at_left (between_width width - 3) words ++ codes " ")) []

-- a line unless there are no words
abbrev pub line_of_words : ℕ → List ℕ → List ℕ
line_of_words width [] = []
line_of_words width (octet ∷ words) = note_line width (octet ∷ words)

-- the capture has only the first of its octets
abbrev pub cut_line : ℕ → Bool → List ℕ
cut_line width false = []
cut_line width true = note_line width (codes "[cut]")

-- the message in the frame, without the space before it; only I and UI frames have one, and their
-- sender is known
abbrev pub names_line : LadderStyle → Option Side → List ℕ → List ℕ
names_line style None octets = []
names_line style (Some from) octets = if style.names
    then line_of_words style.time_width (drop 1 (names_text from octets)) else []

abbrev pub remark_line : ℕ → Option Remark → List ℕ
remark_line width None = []
remark_line width (Some r) = note_line width (remark_words r)

-- the remarks, in the order of their kinds
abbrev pub each_remark : Remarks → List (Option Remark)
each_remark r = r.establishment ∷ r.ns ∷ r.window ∷ r.busy ∷ r.nr ∷ r.bit ∷ r.answer
    ∷ r.identity ∷ r.conflict ∷ []

abbrev pub remark_lines : LadderStyle → Option Remarks → List ℕ
remark_lines style None = []
remark_lines style (Some r) =
    flat_map (remark_line style.time_width) (each_remark (said_beside style.names r))

abbrev pub note_lines : LadderStyle → Packet → Option Side → List ℕ → Option Remarks → List ℕ
note_lines style packet from octets said = cut_line style.time_width packet.is_cut
    ++ (names_line style from octets ++ remark_lines style said)

-- all lines of octets, of this sender if it is known
abbrev pub frame_lines : LadderStyle → Packet → List ℕ → Option Side → List ℕ → Option Remarks
    → Option Listening → List ℕ
frame_lines style packet time from octets said listening =
    rung_line style packet time from octets listening
    ++ note_lines style packet from octets said
