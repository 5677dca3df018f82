-- Parts of a line of text.
use Rattle.std.specs.Prelude.{ℕ, ◌==◌, ◌&&◌, ◌||◌, not, if◌then◌else◌, nat_le, Bool, List, [], ◌∷◌, length, take, drop, Option, Some, None}
use Rattle.std.specs.List.{position_or_len}
use Rattle.std.specs.Str.{bytes_eq}
use Rattle.lapd_cli_script.specs.Line.{parsed_number}

-- the text behind the first occurrence of a word
abbrev pub behind : List ℕ → List ℕ → Option (List ℕ)
behind word [] = None
behind word (octet ∷ octets) = if bytes_eq (take (length word) (octet ∷ octets)) word
    then Some (drop (length word) (octet ∷ octets)) else behind word octets

-- a decimal digit
abbrev pub is_digit : ℕ → Bool
is_digit octet = nat_le 48 octet && nat_le octet 57

abbrev pub is_not_digit : ℕ → Bool
is_not_digit octet = not (is_digit octet)

-- the number below 2^64 whose decimal digits are at the beginning, and the text behind these
abbrev pub number_at : List ℕ → Option ℕ
number_at text = parsed_number (take (position_or_len is_not_digit text) text)

abbrev pub digits_behind : List ℕ → List ℕ
digits_behind text = drop (position_or_len is_not_digit text) text

-- without leading spaces and tabs
abbrev pub without_spaces : List ℕ → List ℕ
without_spaces [] = []
without_spaces (octet ∷ octets) =
    if (octet == 32) || (octet == 9) then without_spaces octets else octet ∷ octets

abbrev pub is_hex_digit : ℕ → Bool
is_hex_digit octet = is_digit octet || ((nat_le 65 octet && nat_le octet 70)
    || (nat_le 97 octet && nat_le octet 102))
