-- The words of a script's line, and the text of printed lines.
use Rattle.std.specs.Prelude.{◌≡◌, ◌≢◌, ℕ, ◌==◌, ◌+◌, ◌*◌, ◌-◌, ◌^◌, ◌&&◌, nat_le, nat_lt, Bool, List, [], ◌∷◌, ◌++◌, length, if◌then◌else◌, Option, Some, None, option_and_then, Result, Ok, Err, ⊤}
use Rattle.std.specs.List.{AllByRecursion}
use Rattle.std.specs.Result.{result_ok}
use Rattle.hex.specs.Hex.{decode_of, encode_lower}
use Rattle.lapd_cli_script.specs.Script.{with_first}
use Rattle.lapd_cli_script.specs.declared.script.LineFault.{LineFault}
use Rattle.lapd_cli_script.specs.declared.script.LineFault.TheVariants.{Bad, Device, Memory}

-- the octets that at least two hexadecimal digits spell, in either case
abbrev pub octets_of : List ℕ → Option (List ℕ)
octets_of [] = None
octets_of (digit ∷ digits) = result_ok (decode_of (digit ∷ digits))

-- the words of a line, separated by single spaces
abbrev pub words_of : List ℕ → List (List ℕ)
words_of [] = [] ∷ []
words_of (octet ∷ octets) = if octet == 32 then [] ∷ words_of octets
    else with_first octet (words_of octets)

-- no octet is a space
abbrev pub HasNoSpace : List ℕ → Type 0
HasNoSpace octets = AllByRecursion (λ octet. octet ≢ 32) octets

-- the words of the rest of a line; an empty list at the line's end
abbrev pub words_left : Option (List ℕ) → List (List ℕ)
words_left None = []
words_left (Some rest) = words_of rest

-- ---- The meaning of a line's last words.

-- succeeds only if no word is left
abbrev pub nothing_of : List (List ℕ) → Option ⊤
nothing_of [] = Some tt
nothing_of (word ∷ words) = None

-- the octets in the last word; no word means no octets
abbrev pub octets_behind : List (List ℕ) → Option (List ℕ)
octets_behind [] = Some []
octets_behind (digits ∷ words) = option_and_then (λ none. octets_of digits) (nothing_of words)

-- a decimal digit
abbrev pub is_digit : ℕ → Bool
is_digit octet = nat_le 48 octet && nat_le octet 57

-- the number n continued by these decimal digits; `None` if one of them is not a digit
abbrev pub digits_behind : ℕ → List ℕ → Option ℕ
digits_behind n [] = Some n
digits_behind n (digit ∷ digits) = if is_digit digit
    then digits_behind (n * 10 + (digit - 48)) digits else None

-- the number if it is below 2^64
abbrev pub below_2_64 : ℕ → Option ℕ
below_2_64 n = if nat_lt n (2 ^ 64) then Some n else None

-- the number below 2^64 that these decimal digits spell; `None` without a digit
abbrev pub parsed_number : List ℕ → Option ℕ
parsed_number digits = if length digits == 0 then None
    else option_and_then below_2_64 (digits_behind 0 digits)

-- the number below 2^64 in the last word
abbrev pub number_behind : List (List ℕ) → Option ℕ
number_behind [] = None
number_behind (digits ∷ words) = option_and_then (λ none. parsed_number digits) (nothing_of words)

-- a function returns the parsed value, seen by `view`; it fails with `Bad` if parsing yields
-- `None`, and it may fail with `Memory`
abbrev pub Reads : {X Y : Type 0} → (X → Y) → Result X LineFault → Option Y → Type 0
Reads view (Ok x) parsed = parsed ≡ Some (view x)
Reads view (Err Bad) parsed = parsed ≡ None
Reads view (Err Memory) parsed = ⊤
Reads view (Err Device) parsed = ⊥

-- this text followed by a line feed
abbrev pub text_line : List ℕ → List ℕ
text_line text = text ++ 10 ∷ []

-- a space and the hexadecimal digits of the octets; nothing if there are no octets
abbrev pub digits_of : List ℕ → List ℕ
digits_of [] = []
digits_of (octet ∷ octets) = 32 ∷ encode_lower (octet ∷ octets)
