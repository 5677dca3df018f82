-- The words of a text, joined by spaces, are the text.
use Rattle.std.proofs.Common.{◌≡◌, ℕ, ◌==◌, Bool, true, false, List, [], ◌∷◌, length, if◌then◌else◌, refl, ap, ◌∙◌, sym, arith}
use Rattle.std.specs.List.{join_with_byte, slice_split, onto_first}
use Rattle.std.proofs.lemmas.List.Splits.{join_with_byte-slice_split}
use Rattle.lapd_cli_script.specs.Line.{words_of}
use Rattle.lapd_cli_script.specs.Script.{with_first}

with_first_is : (octet : ℕ) (words : List (List ℕ))
    → with_first octet words ≡ onto_first octet words
with_first_is octet [] = refl
with_first_is octet (word ∷ words) = refl

words_are_parts : (octets : List ℕ) → words_of octets ≡ slice_split (λ b. b == 32) octets
words_are_parts [] = refl
words_are_parts (octet ∷ octets) =
    rw (with_first_is octet (words_of octets), words_are_parts octets) refl

pub joined : (octets : List ℕ) → join_with_byte 32 (words_of octets) ≡ octets
joined octets =
    ap (join_with_byte 32) (words_are_parts octets) ∙ join_with_byte-slice_split 32 octets

-- the words that are left, joined, are the text that is left
pub text_left : (text : List ℕ) (words : List (List ℕ)) → words_of text ≡ words
    → join_with_byte 32 words ≡ text
text_left text words e = ap (join_with_byte 32) (sym e) ∙ joined text

-- a line has a word
abbrev empty : List ℕ
empty = []

some_word : (test : Bool) (octet : ℕ) (words : List (List ℕ))
    → (if test then [] ∷ words else with_first octet words) ≡ [] → ⊥
some_word true octet words e =
    let n : length (empty ∷ words) ≡ 0 = ap length e in omega arith
some_word false octet [] e =
    let n : length ((octet ∷ []) ∷ []) ≡ 0 = ap length e in omega arith
some_word false octet (word ∷ words) e =
    let n : length ((octet ∷ word) ∷ words) ≡ 0 = ap length e in omega arith

pub never_none : (octets : List ℕ) → words_of octets ≡ [] → ⊥
never_none [] e = some_word true 0 [] e
never_none (octet ∷ octets) e = some_word (octet == 32) octet (words_of octets) e
