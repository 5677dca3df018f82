-- The lines of the command `pair`: each names a move of two ends.
use Rattle.std.specs.Prelude.{ℕ, List, [], ◌∷◌, if◌then◌else◌, true, false, codes, Option, Some, None, option_map, option_and_then}
use Rattle.std.specs.Str.{bytes_eq}
use Rattle.lapd_frame.specs.declared.Side.{Side}
use Rattle.lapd_frame.specs.declared.Side.TheVariants.{Network, User}
use Rattle.lapd_cli_script.specs.Line.{words_of, nothing_of, number_behind, octets_behind}
use Rattle.lapd_pair_laws.specs.Move.{PairEvent, Move, Give, Establish, Release, Deliver, Lose, Expire200, Expire203, Busy, UnitData, Restart}

-- the side with this name
abbrev pub side_named : List ℕ → Option Side
side_named word =
    if bytes_eq word (codes "user") then Some User else (
    if bytes_eq word (codes "net") then Some Network else None)

abbrev pub move_by : Side → PairEvent → Move
move_by side event = record { side = side; event = event }

-- a word with nothing after its side
abbrev pub bare_move : Side → PairEvent → List (List ℕ) → Option Move
bare_move side event behind = option_map (λ none. move_by side event) (nothing_of behind)

-- `busy SIDE on` and `busy SIDE off`
abbrev pub busy_move : Side → List (List ℕ) → Option Move
busy_move side [] = None
busy_move side (word ∷ behind) =
    if bytes_eq word (codes "on") then bare_move side (Busy true) behind else (
    if bytes_eq word (codes "off") then bare_move side (Busy false) behind else None)

-- the move named by a word, its side and the words after the side
abbrev pub move_named : List ℕ → Side → List (List ℕ) → Option Move
move_named word side behind =
    if bytes_eq word (codes "give")
    then option_map (λ message. move_by side (Give message)) (octets_behind behind) else (
    if bytes_eq word (codes "establish") then bare_move side Establish behind else (
    if bytes_eq word (codes "release") then bare_move side Release behind else (
    if bytes_eq word (codes "deliver") then bare_move side Deliver behind else (
    if bytes_eq word (codes "lose")
    then option_map (λ at. move_by side (Lose at)) (number_behind behind) else (
    if bytes_eq word (codes "expire200") then bare_move side Expire200 behind else (
    if bytes_eq word (codes "expire203") then bare_move side Expire203 behind else (
    if bytes_eq word (codes "busy") then busy_move side behind else (
    if bytes_eq word (codes "unit")
    then option_map (λ octets. move_by side (UnitData octets)) (octets_behind behind) else (
    if bytes_eq word (codes "restart") then bare_move side Restart behind else None)))))))))

abbrev pub move_with_side : List ℕ → List (List ℕ) → Option Move
move_with_side word [] = None
move_with_side word (name ∷ behind) =
    option_and_then (λ side. move_named word side behind) (side_named name)

abbrev pub move_of_words : List (List ℕ) → Option Move
move_of_words [] = None
move_of_words (word ∷ behind) = move_with_side word behind

-- the move that a line names
abbrev pub move_of_line : List ℕ → Option Move
move_of_line line = move_of_words (words_of line)
