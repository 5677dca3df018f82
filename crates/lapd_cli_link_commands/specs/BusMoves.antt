-- The words of a line of the command `bus`, and the move they name.
use Rattle.std.specs.Prelude.{ℕ, ◌+◌, ◌-◌, ◌*◌, ◌&&◌, nat_le, if◌then◌else◌, List, [], ◌∷◌, codes, Option, Some, None, option_map, option_and_then}
use Rattle.std.specs.Str.{bytes_eq}
use Rattle.lapd_cli_script.specs.Line.{is_digit, number_behind, parsed_number}
use Rattle.lapd_tei.specs.declared.bus_move.BusMove.{BusMove}
use Rattle.lapd_tei.specs.declared.bus_move.BusMove.TheVariants.{Ask, T202, Hear, Drop, HearUp, DropUp, Check, T201, Leave}

-- ---- Numbers.

-- the number if it is a TEI
abbrev pub tei_at : ℕ → Option ℕ
tei_at n = if nat_le n 127 then Some n else None

-- the value of a hexadecimal digit in either case
abbrev pub digit_value : ℕ → Option ℕ
digit_value octet =
    if is_digit octet then Some (octet - 48) else (
    if nat_le 97 octet && nat_le octet 102 then Some (octet - 87) else (
    if nat_le 65 octet && nat_le octet 70 then Some (octet - 55) else None))

-- the number of four hexadecimal digits, given by their values
abbrev pub joined : Option ℕ → Option ℕ → Option ℕ → Option ℕ → Option ℕ
joined (Some a) (Some b) (Some c) (Some d) = Some (a * 4096 + b * 256 + c * 16 + d)
joined a b c d = None

-- the reference number (Ri) that four hexadecimal digits spell
abbrev pub reference_of : List ℕ → Option ℕ
reference_of (a ∷ b ∷ c ∷ d ∷ []) =
    joined (digit_value a) (digit_value b) (digit_value c) (digit_value d)
reference_of word = None

-- ---- The words after the first.

abbrev pub both : Option ℕ → Option ℕ → Option (ℕ × ℕ)
both (Some a) (Some b) = Some (a, b)
both a b = None

-- a terminal and a reference
abbrev pub terminal_and_reference : List (List ℕ) → Option (ℕ × ℕ)
terminal_and_reference (t ∷ ri ∷ []) = both (parsed_number t) (reference_of ri)
terminal_and_reference behind = None

-- a message, then a terminal and a reference number
abbrev pub hear_move : Option ℕ → Option (ℕ × ℕ) → Option BusMove
hear_move (Some i) (Some (t, ri)) = Some (Hear i t ri)
hear_move i answer = None

abbrev pub receive : List (List ℕ) → Option BusMove
receive [] = None
receive (i ∷ behind) = hear_move (parsed_number i) (terminal_and_reference behind)

-- a TEI, with nothing after it
abbrev pub tei_behind : List (List ℕ) → Option ℕ
tei_behind behind = option_and_then tei_at (number_behind behind)

abbrev pub nothing_behind : List (List ℕ) → Option BusMove
nothing_behind [] = Some T201
nothing_behind behind = None

-- ---- A line.

abbrev pub move_by : List ℕ → List (List ℕ) → Option BusMove
move_by word behind =
    if bytes_eq word (codes "ask")
    then option_map (λ p. Ask p.0 p.1) (terminal_and_reference behind) else (
    if bytes_eq word (codes "t202")
    then option_map (λ p. T202 p.0 p.1) (terminal_and_reference behind) else (
    if bytes_eq word (codes "hear") then receive behind else (
    if bytes_eq word (codes "drop") then option_map Drop (number_behind behind) else (
    if bytes_eq word (codes "hear-up") then option_map HearUp (number_behind behind) else (
    if bytes_eq word (codes "drop-up") then option_map DropUp (number_behind behind) else (
    if bytes_eq word (codes "check") then option_map Check (tei_behind behind) else (
    if bytes_eq word (codes "t201") then nothing_behind behind else (
    if bytes_eq word (codes "leave")
    then option_map Leave (number_behind behind) else None))))))))

abbrev pub move_of : List (List ℕ) → Option BusMove
move_of [] = None
move_of (word ∷ behind) = move_by word behind
