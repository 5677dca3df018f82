-- The data of a page: a row for each frame, an array of JSON (RFC 8259) in an element of HTML.
use Rattle.std.specs.Prelude.{ℕ, ◌/◌, ◌%◌, ◌==◌, ◌&&◌, nat_le, nat_lt, not, if◌then◌else◌, Bool, true, false, List, [], ◌∷◌, ◌++◌, codes, drop, flat_map, Option, Some, None, unwrap_or, Result, Ok, Err}
use Rattle.std.specs.Fmt.{decimal}
use Rattle.hex.specs.Hex.{encode_lower}
use Rattle.lapd_frame.specs.declared.Side.{Side}
use Rattle.lapd_frame.specs.declared.Side.TheVariants.{Network, User}
use Rattle.lapd_frame.specs.declared.FrameFault.{FrameFault}
use Rattle.lapd_frame.specs.Fault.{fault_name}
use Rattle.lapd_frame.specs.Frame.{Fields}
use Rattle.lapd_follow.specs.declared.remark.Remark.{Remark}
use Rattle.lapd_follow.specs.declared.remarks.Remarks.{Remarks}
use Rattle.lapd_follow.specs.Listening.{Listening}
use Rattle.lapd_follow.specs.Remarks.{class_of}
use Rattle.lapd_follow.specs.Texts.{class_name, clause_of, remark_text}
use Rattle.lapd_cli_render.specs.Names.{names_text}
use Rattle.lapd_cli_render.specs.declared.Packet.{Packet}
use Rattle.lapd_cli_ladder.specs.Words.{control_words, known_role, known_words, reading_of}

-- ---- Texts.

-- the octets that a text of a row has unchanged: those of ASCII from space to tilde, but for
-- quotation mark, ampersand, both angle brackets and backslash
abbrev pub is_plain : ℕ → Bool
is_plain octet = nat_le 32 octet && (nat_lt octet 127 && (not (octet == 34)
    && (not (octet == 38) && (not (octet == 60) && (not (octet == 62) && not (octet == 92))))))

-- any other octet is escaped (RFC 8259, 7), so no text ends itself, its row or its element
abbrev pub escaped_octet : ℕ → List ℕ
escaped_octet octet = if is_plain octet then octet ∷ []
    else codes "\\u00" ++ encode_lower (octet ∷ [])

abbrev pub escaped : List ℕ → List ℕ
escaped words = flat_map escaped_octet words

-- a text in a row, after another value
unfoldable pub text_cell : List ℕ → List ℕ
text_cell words = codes ",\"" ++ (escaped words ++ codes "\"")

-- ---- The words of a frame.

-- a frame without its address and its information, or the fault of octets that do not form one
abbrev pub label_words : Option Side → Result Fields FrameFault → List ℕ
label_words from (Ok f) = control_words (known_role from f.address.role) f.control
label_words from (Err fault) = fault_name fault.kind

abbrev pub sender_letter : Option Side → List ℕ
sender_letter None = codes "?"
sender_letter (Some User) = codes "U"
sender_letter (Some Network) = codes "N"

-- the message in the frame, without the space before it; only I and UI frames have one, and their
-- sender is known
abbrev pub message_words : Option Side → List ℕ → List ℕ
message_words None octets = []
message_words (Some from) octets = drop 1 (names_text from octets)

-- the time of a capture in microseconds since 1970, if known
abbrev pub moment_words : Option ℕ → List ℕ
moment_words None = []
moment_words (Some moment) = decimal moment

-- ---- Remarks: an array each, with its class, clause and text.

abbrev pub remark_cell : Remark → List ℕ
remark_cell r = codes ",[0" ++ (text_cell (class_name (class_of r))
    ++ (text_cell (clause_of r) ++ (text_cell (remark_text r) ++ codes "]")))

abbrev pub remark_or_none : Option Remark → List ℕ
remark_or_none None = []
remark_or_none (Some r) = remark_cell r

abbrev pub each_remark : Remarks → List (Option Remark)
each_remark r = r.establishment ∷ r.ns ∷ r.window ∷ r.busy ∷ r.nr ∷ r.bit ∷ r.answer
    ∷ r.identity ∷ r.conflict ∷ []

abbrev pub remark_cells : Option Remarks → List ℕ
remark_cells None = []
remark_cells (Some r) = flat_map remark_or_none (each_remark r)

-- ---- A row.

-- the number of the packet, the time and the sender
unfoldable pub packet_cells : Packet → Option Side → List ℕ
packet_cells packet from = decimal packet.number
    ++ (text_cell (moment_words packet.moment) ++ text_cell (sender_letter from))

-- the octets, and the frame in words
unfoldable pub frame_cells : Option Side → List ℕ → List ℕ
frame_cells from octets = text_cell (encode_lower octets)
    ++ text_cell (label_words from (reading_of from octets))

-- what is known of the user's and the network's end after the frame
unfoldable pub end_cells : Option Side → List ℕ → Option Listening → List ℕ
end_cells from octets listening = text_cell (known_words User (reading_of from octets) listening)
    ++ text_cell (known_words Network (reading_of from octets) listening)

abbrev pub cut_cell : Bool → List ℕ
cut_cell false = codes ",0"
cut_cell true = codes ",1"

-- the message, and whether the packet was cut
unfoldable pub note_cells : Packet → Option Side → List ℕ → List ℕ
note_cells packet from octets = text_cell (message_words from octets)
    ++ cut_cell packet.is_cut

-- octets of this sender, if it is known, in this packet, with what is known of both ends after them
abbrev pub frame_row : Packet → Option Side → List ℕ → Option Remarks → Option Listening → List ℕ
frame_row packet from octets said listening = codes "[" ++ (packet_cells packet from
    ++ (frame_cells from octets ++ (end_cells from octets listening
    ++ (note_cells packet from octets ++ (remark_cells said ++ codes "],\n")))))

-- before the first row: how many frames the page has at most, 0 if all
unfoldable pub limit_row : Option ℕ → List ℕ
limit_row limit = codes "{\"limit\":" ++ (decimal (unwrap_or limit 0) ++ codes "},\n")

abbrev pub row_before : ℕ → Option ℕ → List ℕ
row_before place limit = if place == 0 then limit_row limit else []

-- the part of a page for octets, after so many frames
abbrev pub page_part : ℕ → Option ℕ → Packet → Option Side → List ℕ → Option Remarks
    → Option Listening → List ℕ
page_part place limit packet from octets said listening = row_before place limit
    ++ frame_row packet from octets said listening

-- the row about this many frames that a capture lacks
unfoldable pub missing_row : ℕ → List ℕ
missing_row count = decimal count ++ codes ",\n"
