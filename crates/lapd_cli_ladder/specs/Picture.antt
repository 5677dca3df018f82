-- A ladder as a picture (SVG 1.1). Its pages are below one another, 940 units wide and 1,000 high.
-- The user is a line at 310 units from the left, the network one at 810.
use Rattle.std.specs.Prelude.{ℕ, ◌+◌, ◌*◌, ◌/◌, ◌%◌, ◌==◌, if◌then◌else◌, Bool, true, false, List, [], ◌∷◌, ◌++◌, codes, drop, flat_map, Option, Some, None}
use Rattle.std.specs.Fmt.{decimal}
use Rattle.lapd_frame.specs.declared.Side.{Side}
use Rattle.lapd_frame.specs.declared.Side.TheVariants.{Network, User}
use Rattle.lapd_follow.specs.declared.remarks.Remarks.{Remarks}
use Rattle.lapd_follow.specs.Listening.{Listening}
use Rattle.lapd_follow.specs.Remarks.{has_violation}
use Rattle.lapd_follow.specs.Texts.{remarks_text}
use Rattle.lapd_cli_render.specs.Names.{names_text}
use Rattle.lapd_cli_render.specs.declared.Packet.{Packet}
use Rattle.lapd_cli_ladder.specs.Columns.{shortened}
use Rattle.lapd_cli_ladder.specs.Words.{frame_words, known_words, reading_of, said_beside}

-- ---- Words.

-- an octet of a text in XML (XML 1.0, 2.4)
abbrev pub escaped_octet : ℕ → List ℕ
escaped_octet octet = if octet == 38 then codes "&amp;" else (if octet == 60 then codes "&lt;"
    else (if octet == 62 then codes "&gt;" else octet ∷ []))

abbrev pub escaped : List ℕ → List ℕ
escaped words = flat_map escaped_octet words

-- words in an element with these attributes
unfoldable pub text_element : List ℕ → List ℕ → List ℕ
text_element attributes words =
    codes "<text " ++ (attributes ++ (codes ">" ++ (escaped words ++ codes "</text>")))

-- two notes; a semicolon between them if there are both
abbrev pub joined : List ℕ → List ℕ → List ℕ
joined [] second = second
joined (octet ∷ first) [] = octet ∷ first
joined (octet ∷ first) (next ∷ second) = (octet ∷ first) ++ (codes "; " ++ (next ∷ second))

abbrev pub cut_words : Bool → List ℕ
cut_words false = []
cut_words true = codes "[cut]"

-- the message in the frame; only I and UI frames have one, and their sender is known
abbrev pub message_words : Bool → Option Side → List ℕ → List ℕ
message_words names None octets = []
message_words names (Some from) octets = if names then drop 1 (names_text from octets) else []

-- the remarks, without the semicolon before the first
abbrev pub said_words : Bool → Option Remarks → List ℕ
said_words names None = []
said_words names (Some said) = drop 2 (remarks_text (said_beside names said))

abbrev pub note_words : Bool → Packet → Option Side → List ℕ → Option Remarks → List ℕ
note_words names packet from octets said = joined (cut_words packet.is_cut)
    (joined (message_words names from octets) (said_words names said))

-- ---- A frame: 25 on each page, 36 units apart.

unfoldable pub begin_page : ℕ → List ℕ
begin_page page = codes "<g transform=\"translate(0 " ++ (decimal page ++ codes "000)\">")

unfoldable pub begin_frame : ℕ → List ℕ
begin_frame place = begin_page (place / 25) ++ (codes "<g transform=\"translate(0 "
    ++ (decimal (place % 25 * 36 + 80) ++ codes ")\">"))

-- the arrow from its sender to the other end, over this part of the upright lines; a line between
-- two question marks if the sender is not known
abbrev pub arrow_element : Option Side → List ℕ
arrow_element (Some User) =
    codes "<path d=\"M310-20v36M810-20v36\"/><path d=\"M310 0H810\" marker-end=\"url(#head)\"/>"
arrow_element (Some Network) =
    codes "<path d=\"M310-20v36M810-20v36\"/><path d=\"M810 0H310\" marker-end=\"url(#head)\"/>"
arrow_element None =
    codes "<path d=\"M310-20v36M810-20v36M326 0H794\"/><text x=\"315\" y=\"4\">?</text><text x=\"798\" y=\"4\">?</text>"

-- the number of its packet
unfoldable pub number_element : ℕ → List ℕ
number_element number = text_element (codes "x=\"60\" class=\"end\"") (decimal number)

-- its time
unfoldable pub time_element : List ℕ → List ℕ
time_element time = text_element (codes "x=\"190\" class=\"end\"") time

unfoldable pub element_front : ℕ → Packet → List ℕ → Option Side → List ℕ
element_front place packet time from = begin_frame place ++ (arrow_element from
    ++ (number_element packet.number ++ time_element time))

-- the attributes of the words beside the upright line of this side
abbrev pub end_attributes : Side → List ℕ
end_attributes User = codes "x=\"300\" class=\"end\""
end_attributes Network = codes "x=\"820\""

-- what is known of the end of this side
unfoldable pub end_element : Side → Option Side → List ℕ → Option Listening → List ℕ
end_element side from octets listening = text_element (end_attributes side)
    (known_words side (reading_of from octets) listening)

unfoldable pub ends_elements : Option Side → List ℕ → Option Listening → List ℕ
ends_elements from octets listening =
    end_element User from octets listening ++ end_element Network from octets listening

-- its words, above the arrow
unfoldable pub label_element : Bool → Option Side → List ℕ → List ℕ
label_element names from octets = text_element (codes "x=\"560\" y=\"-5\" class=\"middle\"")
    (shortened 66 (frame_words names from octets (reading_of from octets)))

-- the attributes of the notes: those with a violation are red
abbrev pub note_attributes : Option Remarks → List ℕ
note_attributes None = codes "x=\"560\" y=\"12\" class=\"middle note\""
note_attributes (Some said) = if has_violation said
    then codes "x=\"560\" y=\"12\" class=\"middle note violation\""
    else codes "x=\"560\" y=\"12\" class=\"middle note\""

-- the notes on it, below the arrow
unfoldable pub notes_element : Bool → Packet → Option Side → List ℕ → Option Remarks → List ℕ
notes_element names packet from octets said =
    text_element (note_attributes said)
    (shortened 110 (note_words names packet from octets said))

-- octets, of this sender if it is known, after so many drawn frames, with what is known of both
-- ends after them
abbrev pub frame_element : Bool → ℕ → Packet → List ℕ → Option Side → List ℕ → Option Remarks
    → Option Listening → List ℕ
frame_element names place packet time from octets said listening =
    element_front place packet time from ++ (ends_elements from octets listening
    ++ (label_element names from octets ++ (notes_element names packet from octets said
    ++ codes "</g></g>\n")))

-- ---- A page.

-- the height of the picture up to its end; that of the last page is the whole height
unfoldable pub page_height : ℕ → List ℕ
page_height page = codes "<style>svg{height:" ++ (decimal (page + 1) ++ codes "000px}</style>")

-- its border, the headings of its columns, and its number from 1
unfoldable pub page_border : ℕ → List ℕ
page_border page = begin_page page
    ++ (codes "<rect width=\"940\" height=\"1000\" class=\"page\"/><text x=\"60\" y=\"40\" class=\"end\">packet</text><text x=\"190\" y=\"40\" class=\"end\">time</text><text x=\"310\" y=\"40\" class=\"middle\">user</text><text x=\"810\" y=\"40\" class=\"middle\">network</text><text x=\"470\" y=\"990\" class=\"middle\">"
    ++ (decimal (page + 1) ++ codes "</text></g>\n"))

abbrev pub page_element : ℕ → List ℕ
page_element page = page_height page ++ page_border page

-- the page of a frame, if it is the first there
abbrev pub page_before : ℕ → List ℕ
page_before place = if place % 25 == 0 then page_element (place / 25) else []

-- the part of a picture for octets, of this sender if it is known, after so many drawn frames
abbrev pub picture_part : Bool → ℕ → Packet → List ℕ → Option Side → List ℕ → Option Remarks
    → Option Listening → List ℕ
picture_part names place packet time from octets said listening = page_before place
    ++ frame_element names place packet time from octets said listening
