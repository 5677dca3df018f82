-- The words of a line that is cut at its first space.
use Rattle.std.proofs.Common.{◌≡◌, ℕ, List, [], ◌∷◌, ◌++◌, refl}
use Rattle.std.proofs.lemmas.Bool.{ne_eqb}
use Rattle.lapd_cli_script.specs.Line.{words_of, HasNoSpace}

pub one_word : (word : List ℕ) → HasNoSpace word → words_of word ≡ word ∷ []
one_word [] h = refl
one_word (octet ∷ word) h = rw (ne_eqb _ _ h.0, one_word word h.1) refl

pub words_behind : (word rest : List ℕ) → HasNoSpace word
    → words_of (word ++ 32 ∷ rest) ≡ word ∷ words_of rest
words_behind [] rest h = refl
words_behind (octet ∷ word) rest h = rw (ne_eqb _ _ h.0, words_behind word rest h.1) refl
