-- Lines of words and numbers as JSON objects (docs/CLI.md, "With the real clock").
use Rattle.std.specs.Prelude.{ℕ, ◌==◌, ◌+◌, if◌then◌else◌, List, [], ◌∷◌, ◌++◌, codes, Option, Some, None, option_and_then, option_map}
use Rattle.serde_json.specs.Data.{Members, no_members}
use Rattle.lapd_cli_render.specs.Json.{object_text, with_number, with_text}
use Rattle.lapd_cli_script.specs.Line.{parsed_number, words_of}

-- ---- A word.

-- the parts of a word before and behind its first `=`, if it has one
abbrev pub parts_at_equals : List ℕ → Option (List ℕ × List ℕ)
parts_at_equals [] = None
parts_at_equals (octet ∷ octets) = if octet == 61 then Some ([], octets)
    else option_map (λ parts. (octet ∷ parts.0, parts.1)) (parts_at_equals octets)

-- the name of a number without `=`, by the index of the word in its line: the SAPI is the first
-- word, the TEI the second
abbrev pub name_of_place : ℕ → Option (List ℕ)
name_of_place place = if place == 0 then Some (codes "sapi")
    else (if place == 1 then Some (codes "tei") else None)

-- the name of a word, if it has one, and the digits behind it
abbrev pub named_digits : ℕ → List ℕ → Option (List ℕ × List ℕ) → Option (List ℕ × List ℕ)
named_digits place word (Some parts) = Some parts
named_digits place word None = option_map (λ name. (name, word)) (name_of_place place)

-- The name and the number of a word that is a member: NAME=NUMBER, or a number as the first or the
-- second word. The number is below 2^64 and has decimal digits alone.
abbrev pub member_of : ℕ → List ℕ → Option (List ℕ × ℕ)
member_of place word =
    option_and_then (λ parts. option_map (λ number. (parts.0, number)) (parsed_number parts.1))
    (named_digits place word (parts_at_equals word))

-- ---- A line.

-- the members of an object so far, and the words that are no members, with single spaces between
-- them
pub record Parts : Type 0 where
  pub members : Members
  pub words : List ℕ

abbrev pub no_parts : Parts
no_parts = record { members = no_members; words = [] }

-- a word behind others
abbrev pub joined : List ℕ → List ℕ → List ℕ
joined [] word = word
joined (octet ∷ octets) word = (octet ∷ octets) ++ 32 ∷ word

-- one word more: a member, which replaces a member of the same name, or one of the other words
abbrev pub with_parted : Option (List ℕ × ℕ) → List ℕ → Parts → Parts
with_parted None word parts = record parts { words = joined parts.words word }
with_parted (Some member) word parts =
    record parts { members = with_number member.0 member.1 parts.members }

abbrev pub with_word : ℕ → List ℕ → Parts → Parts
with_word place word parts = with_parted (member_of place word) word parts

-- the words from this index on, from left to right
abbrev pub with_words : ℕ → List (List ℕ) → Parts → Parts
with_words place [] parts = parts
with_words place (word ∷ words) parts =
    with_words (place + 1) words (with_word place word parts)

-- the other words, if any, as the member `line`, which replaces a member of that name
abbrev pub with_other_words : List ℕ → Members → Members
with_other_words [] members = members
with_other_words (octet ∷ octets) members = with_text (codes "line") (octet ∷ octets) members

abbrev pub parts_members : Parts → Members
parts_members parts = with_other_words parts.words parts.members

-- the members of the object for a line of these words; `put` keeps the members sorted by their
-- names
abbrev pub words_members : List (List ℕ) → Members
words_members words = parts_members (with_words 0 words no_parts)

-- the text of the object for a line
unfoldable pub words_object : List ℕ → List ℕ
words_object line = object_text (words_members (words_of line))
