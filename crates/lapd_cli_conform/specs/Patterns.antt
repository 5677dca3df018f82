-- Patterns of names.
use Rattle.std.specs.Prelude.{ℕ, ◌==◌, ◌&&◌, ◌||◌, Bool, true, false, List, [], ◌∷◌, if◌then◌else◌}

abbrev pub is_end : List ℕ → Bool
is_end [] = true
is_end (octet ∷ text) = false

-- some end of the text, or the whole text, satisfies this
abbrev pub some_end : (List ℕ → Bool) → List ℕ → Bool
some_end is [] = is []
some_end is (octet ∷ text) = is (octet ∷ text) || some_end is text

-- the text begins with this octet, and the rest satisfies this
abbrev pub begins : ℕ → (List ℕ → Bool) → List ℕ → Bool
begins octet is [] = false
begins octet is (first ∷ text) = octet == first && is text

-- a pattern fits a text: 42, a star, fits any octets, and every other octet itself
abbrev pub fits : List ℕ → List ℕ → Bool
fits [] text = is_end text
fits (octet ∷ pattern) text = if octet == 42 then some_end (fits pattern) text
    else begins octet (fits pattern) text
