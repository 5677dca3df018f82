-- A line of a log with its time in front, as `@MICROSECONDS TEXT`.
use Rattle.std.specs.Prelude.{ℕ, ◌==◌, if◌then◌else◌, Bool, List, [], ◌∷◌, drop, Option, Some, None}
use Rattle.std.specs.List.{before_first, position_or_len}
use Rattle.lapd_cli_script.specs.Line.{parsed_number}

abbrev pub is_space : ℕ → Bool
is_space octet = octet == 32

-- the text behind the first space
abbrev pub behind_space : List ℕ → List ℕ
behind_space text = drop 1 (drop (position_or_len is_space text) text)

abbrev pub timed_by : Option ℕ → List ℕ → Option (ℕ × List ℕ)
timed_by None text = None
timed_by (Some time) text = Some (time, behind_space text)

-- the time in front of a line, in microseconds since 1970, and the text behind it
abbrev pub timed_line : List ℕ → Option (ℕ × List ℕ)
timed_line [] = None
timed_line (octet ∷ octets) = if octet == 64
    then timed_by (parsed_number (before_first is_space octets)) octets else None
