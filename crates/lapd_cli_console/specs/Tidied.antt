-- Tidying a line that was typed at a terminal.
use Rattle.std.specs.Prelude.{◌≢◌, ℕ, ◌==◌, ◌&&◌, ◌||◌, if◌then◌else◌, List, [], ◌∷◌, ◌++◌, Option, Some, None, codes, drop, length, take}
use Rattle.std.specs.List.{AllByRecursion, flat_map, slice_split}
use Rattle.std.specs.Str.{bytes_eq}
use Rattle.lapd_cli_script.specs.Line.{words_of}
use Rattle.lapd_cli_grammar.specs.declared.form.Argument.{Argument}
use Rattle.lapd_cli_grammar.specs.declared.script.Script.{Script}
use Rattle.lapd_cli_grammar.specs.Forms.{Shape, shape_named}
use Rattle.lapd_cli_grammar.specs.Values.{is_hex}

-- ---- Spaces around a line.

abbrev pub without_front : List ℕ → List ℕ
without_front [] = []
without_front (octet ∷ octets) = if octet == 32 then without_front octets else octet ∷ octets

-- prepends an octet to the tidied rest of a line: a space before an empty rest is dropped
abbrev pub before_trimmed : ℕ → List ℕ → List ℕ
before_trimmed octet [] = if octet == 32 then [] else octet ∷ []
before_trimmed octet (next ∷ octets) = octet ∷ next ∷ octets

abbrev pub without_end : List ℕ → List ℕ
without_end [] = []
without_end (octet ∷ octets) = before_trimmed octet (without_end octets)

abbrev pub trimmed : List ℕ → List ℕ
trimmed line = without_end (without_front line)

-- ---- The digits of HEX.

-- the part without a leading `0x`
abbrev pub digits_of_part : List ℕ → List ℕ
digits_of_part part = if bytes_eq (take 2 part) (codes "0x") || bytes_eq (take 2 part) (codes "0X")
    then drop 2 part else part

-- no octet is a colon
abbrev pub HasNoColon : List ℕ → Type 0
HasNoColon octets = AllByRecursion (λ octet. octet ≢ 58) octets

-- the parts between colons, each without a leading `0x`
abbrev pub digits_of_word : List ℕ → List ℕ
digits_of_word word = flat_map digits_of_part (slice_split (λ octet. octet == 58) word)

-- the digits as one word, unless there are none
abbrev pub digits_or : List (List ℕ) → List ℕ → List (List ℕ)
digits_or words [] = words
digits_or words (digit ∷ digits) = (digit ∷ digits) ∷ []

abbrev pub hex_words : List (List ℕ) → List (List ℕ)
hex_words words = digits_or words (flat_map digits_of_word words)

-- ---- A line.

-- the arguments of the form that begins with this word; empty if no form does
abbrev pub arguments_of : Option Shape → List Argument
arguments_of None = []
arguments_of (Some shape) = shape.1

abbrev pub arguments_named : Script → List ℕ → List Argument
arguments_named script word = arguments_of (shape_named script word)

-- the words after the first one; if the last argument is HEX, its words are joined into one
abbrev pub tidied_behind : List Argument → List (List ℕ) → List (List ℕ)
tidied_behind [] words = words
tidied_behind (argument ∷ arguments) [] = []
tidied_behind (argument ∷ arguments) (word ∷ words) =
    if is_hex argument && (length arguments == 0) then hex_words (word ∷ words)
    else word ∷ tidied_behind arguments words

-- each word with a space before it
abbrev pub spaced : List (List ℕ) → List ℕ
spaced words = flat_map (λ word. 32 ∷ word) words

abbrev pub tidied_words : Script → List (List ℕ) → List ℕ
tidied_words script [] = []
tidied_words script (word ∷ behind) = word
    ++ spaced (tidied_behind (arguments_named script word) behind)

-- a line of the command without leading and trailing spaces, and without `0x`, spaces and colons in
-- HEX
abbrev pub tidied_line : Script → List ℕ → List ℕ
tidied_line script line = tidied_words script (words_of (trimmed line))
