-- The lines of a text that is cut at its first line feed.
use Rattle.std.proofs.Common.{◌≡◌, ◌<◌, ℕ, List, [], ◌∷◌, ◌++◌, length, refl, arith}
use Rattle.std.proofs.lemmas.Bool.{ne_eqb}
use Rattle.lapd_cli_script.specs.Script.{lines_of}
use Rattle.lapd_cli_script.specs.WalkState.{HasNoFeed}

pub one_line_and_rest : (line rest : List ℕ) → HasNoFeed line
    → lines_of (line ++ 10 ∷ rest) ≡ line ∷ lines_of rest
one_line_and_rest [] rest h = refl
one_line_and_rest (octet ∷ line) rest h = rw (ne_eqb _ _ h.0, one_line_and_rest line rest h.1) refl

one_line : (octet : ℕ) (line : List ℕ) → HasNoFeed (octet ∷ line)
    → lines_of (octet ∷ line) ≡ (octet ∷ line) ∷ []
one_line octet [] h = rw (ne_eqb _ _ h.0) refl
one_line octet (next ∷ line) h = rw (ne_eqb _ _ h.0, one_line next line h.1) refl

pub last_line : (text : List ℕ) → HasNoFeed text → 0 < length text
    → lines_of text ≡ text ∷ lines_of []
last_line [] h some = absurd (let impossible : ⊥ = omega arith in impossible)
last_line (octet ∷ line) h some = one_line octet line h
