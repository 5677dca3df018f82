-- Loose lines of `decode`: hexadecimal text in the forms of other programs.
use Rattle.std.specs.Prelude.{ℕ, ◌==◌, ◌&&◌, ◌||◌, not, if◌then◌else◌, nat_eq, nat_lt, Bool, true, List, [], ◌∷◌, codes, length, take, drop, Option, Some, None}
use Rattle.std.specs.List.{before_first, flat_map, list_all, position_or_len, slice_split, starts_with}
use Rattle.std.specs.Str.{bytes_eq}
use Rattle.lapd_frame.specs.declared.Side.{Side}
use Rattle.lapd_frame.specs.declared.Side.TheVariants.{Network, User}
use Rattle.lapd_field.specs.Address.{other_side}
use Rattle.lapd_cli_script.specs.Line.{octets_of}
use Rattle.lapd_cli_decode.specs.declared.line_sender.LineSender.{LineSender}
use Rattle.lapd_cli_decode.specs.declared.line_sender.LineSender.TheVariants.{Named, Printer, Peer, Unnamed, Continued}
use Rattle.lapd_cli_decode.specs.declared.loose.End.{End}
use Rattle.lapd_cli_decode.specs.declared.loose.End.TheVariants.{Hex, Word}
use Rattle.lapd_cli_decode.specs.Sent.{sent_by}

-- ---- HEX in a loose line: separators among the digits are skipped, and `0x` before a part.

-- a space, a tab, a carriage return, a colon, or a bracket
abbrev pub is_separator : ℕ → Bool
is_separator octet = (octet == 32) || ((octet == 9) || ((octet == 13) || ((octet == 58)
    || ((octet == 91) || (octet == 93)))))

-- a part without a leading `0x`
abbrev pub without_0x : List ℕ → List ℕ
without_0x part = if bytes_eq (take 2 part) (codes "0x") || bytes_eq (take 2 part) (codes "0X")
    then drop 2 part else part

-- the digits in the parts between separators
abbrev pub digits_in : List ℕ → List ℕ
digits_in text = flat_map without_0x (slice_split is_separator text)

-- the octets of these digits; without digits, no octets
abbrev pub octets_or_none : List ℕ → Option (List ℕ)
octets_or_none [] = Some []
octets_or_none (digit ∷ digits) = octets_of (digit ∷ digits)

abbrev pub loose_octets : List ℕ → Option (List ℕ)
loose_octets text = octets_or_none (digits_in text)

-- the same, but at least one octet
abbrev pub some_octets : List ℕ → Option (List ℕ)
some_octets text = octets_of (digits_in text)

-- ---- 1. A line that begins with its sender: `user`, `net`, `>` or `<`, and HEX.

-- a separator, or the line's end, ends the word before it
abbrev pub is_parted : List ℕ → Bool
is_parted [] = true
is_parted (octet ∷ octets) = is_separator octet

abbrev pub loose_behind : LineSender → List ℕ → Option (LineSender × List ℕ)
loose_behind from rest = if is_parted rest then sent_by from (loose_octets rest) else None

-- without leading spaces and tabs
abbrev pub without_front : List ℕ → List ℕ
without_front [] = []
without_front (octet ∷ octets) =
    if (octet == 32) || (octet == 9) then without_front octets else octet ∷ octets

-- an information element, which libpri prints as `> [04 03 80 90 a3]`: no space is behind its
-- bracket; or a closing bracket alone, which ends one
abbrev pub is_element : List ℕ → Bool
is_element rest = bytes_eq (take 1 (without_front rest)) (codes "]")
    || (bytes_eq (take 2 rest) (codes " [") && not (bytes_eq (take 3 rest) (codes " [ ")))

abbrev pub marked_line : LineSender → List ℕ → Option (LineSender × List ℕ)
marked_line from rest = if is_element rest then None else loose_behind from rest

-- libpri prints `>` before what it sent, and `<` before what it received
abbrev pub printed_line : List ℕ → Option (LineSender × List ℕ)
printed_line [] = None
printed_line (mark ∷ rest) = if mark == 62 then marked_line Printer rest else (
    if mark == 60 then marked_line Peer rest else None)

abbrev pub named_line : List ℕ → Option (LineSender × List ℕ)
named_line line =
    if bytes_eq (take 4 line) (codes "user") then loose_behind (Named User) (drop 4 line) else (
    if bytes_eq (take 3 line) (codes "net") then loose_behind (Named Network) (drop 3 line) else
    printed_line line)

-- ---- 2. A line of a log: anything, then `> [ HEX ]` or `< [ HEX ]`, then anything. A space is
-- behind the opening bracket.

-- a closing bracket ends HEX; a mark can't be in it
abbrev pub ends_hex : ℕ → Bool
ends_hex octet = (octet == 93) || ((octet == 62) || (octet == 60))

-- the octets that end a part of a line: HEX in brackets, or a word
abbrev pub ends : End → ℕ → Bool
ends Hex = ends_hex
ends Word = is_separator

-- the octets before a closing bracket
abbrev pub closed_octets : List ℕ → List ℕ → Option (List ℕ)
closed_octets front [] = None
closed_octets front (octet ∷ octets) = if octet == 93 then some_octets front else None

abbrev pub bracketed_octets : List ℕ → Option (List ℕ)
bracketed_octets text =
    closed_octets (before_first ends_hex text) (drop (position_or_len ends_hex text) text)

-- the octets in brackets after a mark
abbrev pub bracketed : List ℕ → Option (LineSender × List ℕ)
bracketed text =
    if bytes_eq (take 4 text) (codes "> [ ") then sent_by Printer (bracketed_octets (drop 4 text))
    else (if bytes_eq (take 4 text) (codes "< [ ")
    then sent_by Peer (bracketed_octets (drop 4 text)) else None)

-- the first reading, or else the second
abbrev pub first_of : Option (LineSender × List ℕ) → Option (LineSender × List ℕ)
    → Option (LineSender × List ℕ)
first_of None second = second
first_of (Some sent) second = Some sent

-- the first mark in the line with octets in brackets
abbrev pub logged_line : List ℕ → Option (LineSender × List ℕ)
logged_line [] = None
logged_line (octet ∷ octets) = first_of (bracketed (octet ∷ octets)) (logged_line octets)

-- ---- 3. A line of a hex dump: an offset, HEX, and perhaps a column of text.

-- the text before these spaces, which end HEX; all of it if they are not in it
abbrev pub before_gap : List ℕ → List ℕ → List ℕ
before_gap gap [] = []
before_gap gap (octet ∷ octets) = if starts_with nat_eq (octet ∷ octets) gap then []
    else octet ∷ before_gap gap octets

abbrev pub is_zero : List ℕ → Bool
is_zero digits = not (length digits == 0) && list_all (λ digit. digit == 48) digits

-- a digit in hexadecimal
abbrev pub is_digit : ℕ → Bool
is_digit octet = (nat_lt 47 octet && nat_lt octet 58) || ((nat_lt 64 octet && nat_lt octet 71)
    || (nat_lt 96 octet && nat_lt octet 103))

-- what a line with this offset says of its sender: another offset than 0 continues a dump
abbrev pub dump_sender : List ℕ → Option LineSender
dump_sender offset = if is_zero offset then Some Unnamed else (
    if not (length offset == 0) && list_all is_digit offset then Some Continued else None)

abbrev pub dumped_by : Option LineSender → List ℕ → List ℕ → Option (LineSender × List ℕ)
dumped_by None gap text = None
dumped_by (Some sender) gap text =
    sent_by sender (some_octets (before_gap gap (without_front text)))

abbrev pub dumped_line : List ℕ → List ℕ → List ℕ → Option (LineSender × List ℕ)
dumped_line offset gap text = dumped_by (dump_sender offset) gap text

-- by the first word and what is behind it: an offset has a colon and a space behind it, and HEX
-- ends at two spaces (xxd, tcpdump); or it has four digits and two spaces, and HEX ends at three
-- (Wireshark). 4. Any other text is HEX.
abbrev pub line_by_word : List ℕ → List ℕ → List ℕ → Option (LineSender × List ℕ)
line_by_word text word behind = if bytes_eq (take 2 behind) (codes ": ")
    then dumped_line (without_0x word) (codes "  ") (drop 2 behind) else (
    if (length word == 4) && bytes_eq (take 2 behind) (codes "  ")
    then dumped_line word (codes "   ") (drop 2 behind) else sent_by Unnamed (some_octets text))

abbrev pub unmarked_line : List ℕ → Option (LineSender × List ℕ)
unmarked_line text = line_by_word text (before_first is_separator text)
    (drop (position_or_len is_separator text) text)

-- ---- All.

-- the octets of a line, and what it says of their sender, by the first of these forms that it has
abbrev pub loose_line : List ℕ → Option (LineSender × List ℕ)
loose_line line = first_of (named_line line) (first_of (logged_line line)
    (unmarked_line (without_front line)))
