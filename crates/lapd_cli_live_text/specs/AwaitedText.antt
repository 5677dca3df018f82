-- The form in which words that were awaited in vain are printed.
use Rattle.std.specs.Prelude.{ℕ, ◌/◌, ◌%◌, List, [], ◌∷◌, if◌then◌else◌, encode_utf8_all}
use Rattle.std.specs.List.{flat_map}
use Rattle.std.specs.Char.{digit_char, is_control}
use Rattle.std.specs.Str.{chars}
use Rattle.std.specs.Str.Lossy.{utf8_lossy}

-- a control character by its number in two hexadecimal digits, as `\x1b`, and any other character
-- unchanged
abbrev pub shown_char : ℕ → List ℕ
shown_char c = if is_control c
    then 92 ∷ 120 ∷ digit_char (c / 16) ∷ digit_char (c % 16) ∷ [] else c ∷ []

-- the characters of a text, so shown
abbrev pub shown_chars : List ℕ → List ℕ
shown_chars text = encode_utf8_all (flat_map shown_char (chars text))

-- Awaited words are UTF-8. Octets that are not would be shown as U+FFFD.
abbrev pub shown_words : List ℕ → List ℕ
shown_words words = shown_chars (utf8_lossy words)
