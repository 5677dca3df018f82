-- The lines that the words of `expect` await.
use Rattle.std.specs.Prelude.{ℕ, ◌&&◌, ◌||◌, ◌==◌, nat_le, not, Bool, false, if◌then◌else◌, List, [], ◌∷◌, ◌++◌, Option, Some, None, is_some, option_and_then}
use Rattle.lapd_frame.specs.declared.Side.{Side}
use Rattle.lapd_frame.specs.declared.Side.TheVariants.{Network, User}
use Rattle.lapd_cli_script.specs.Line.{parsed_number}

-- ---- The first word of a line, and the rest from its first space on.

abbrev pub first_word : List ℕ → List ℕ
first_word [] = []
first_word (octet ∷ line) = if octet == 32 then [] else octet ∷ first_word line

abbrev pub behind_word : List ℕ → List ℕ
behind_word [] = []
behind_word (octet ∷ line) = if octet == 32 then octet ∷ line else behind_word line

-- ---- A line that begins with some words.

-- the rest of a line that begins with this octet
abbrev pub behind_same : ℕ → List ℕ → Option (List ℕ)
behind_same octet [] = None
behind_same octet (first ∷ line) = if octet == first then Some line else None

-- A `*` stands for the rest of a word, and any other octet for itself.
abbrev pub behind_octet : ℕ → List ℕ → Option (List ℕ)
behind_octet octet line = if octet == 42 then Some (behind_word line) else behind_same octet line

-- the rest of a line that begins with these words
abbrev pub behind_words : List ℕ → List ℕ → Option (List ℕ)
behind_words [] line = Some line
behind_words (octet ∷ words) line = option_and_then (behind_words words) (behind_octet octet line)

abbrev pub begins_as : List ℕ → List ℕ → Bool
begins_as words line = is_some (behind_words words line)

-- ---- A TEI that is left out.

-- a word that begins so may be a TEI
abbrev pub begins_tei : ℕ → Bool
begins_tei octet = (nat_le 48 octet && nat_le octet 57) || octet == 42

-- the number of a SAPI
abbrev pub is_sapi : Option ℕ → Bool
is_sapi None = false
is_sapi (Some n) = n == 0 || n == 16 || n == 63

-- a SAPI is followed by a word that is no TEI
abbrev pub lacks_tei : List ℕ → List ℕ → Bool
lacks_tei sapi (space ∷ octet ∷ rest) = not (begins_tei octet) && is_sapi (parsed_number sapi)
lacks_tei sapi rest = false

abbrev pub with_any_tei : List ℕ → List ℕ → List ℕ
with_any_tei sapi rest = if lacks_tei sapi rest then sapi ++ 32 ∷ 42 ∷ rest else sapi ++ rest

-- Lines of the user side have the terminal's own TEI, so its `expect` need not name it.
abbrev pub awaited_line : Side → List ℕ → List ℕ
awaited_line Network words = words
awaited_line User words = with_any_tei (first_word words) (behind_word words)
