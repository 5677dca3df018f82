-- The words of octets that are cut at a space.
use Rattle.std.proofs.Common.{◌≡◌, ℕ, ◌==◌, Bool, true, false, List, [], ◌∷◌, ◌++◌, refl, sym, ap, ◌∙◌, if◌then◌else◌, subst}
use Rattle.std.specs.List.{join_with_byte, slice_split, onto_first}
use Rattle.std.specs.Str.{IsUtf8, is_utf8}
use Rattle.std.proofs.lemmas.List.Splits.{join_with_byte-slice_split}
use Rattle.std.proofs.lemmas.Str.{IsUtf8-from_is_utf8, is_utf8-from_IsUtf8}
use Rattle.lapd_cli_script.specs.Line.{HasNoSpace, words_of}
use Rattle.lapd_cli_script.specs.Script.{with_first}
use Rattle.lapd_cli_script.proofs.WordsOf.{one_word}
use Rattle.lapd_cli_grammar.specs.Values.{last_word, text_and_last, words_before}

-- ---- Words are the parts between spaces, so the octets are the words joined by spaces.

with_first_is : (octet : ℕ) (words : List (List ℕ))
    → with_first octet words ≡ onto_first octet words
with_first_is octet [] = refl
with_first_is octet (word ∷ words) = refl

words_are_parts : (octets : List ℕ) → words_of octets ≡ slice_split (λ b. b == 32) octets
words_are_parts [] = refl
words_are_parts (octet ∷ octets) =
    rw (with_first_is octet (words_of octets), words_are_parts octets) refl

joined : (octets : List ℕ) → join_with_byte 32 (words_of octets) ≡ octets
joined octets =
    ap (join_with_byte 32) (words_are_parts octets) ∙ join_with_byte-slice_split 32 octets

-- ---- One more word after a space.

abbrev AreSome : List (List ℕ) → Type 0
AreSome words = (first : List ℕ) × (more : List (List ℕ)) × (words ≡ first ∷ more)

some_or_more : (test : Bool) (octet : ℕ) (words : List (List ℕ)) → AreSome words
    → AreSome (if test then [] ∷ words else with_first octet words)
some_or_more true octet words w = ([], words, refl)
some_or_more false octet words w = (octet ∷ w.0, w.1, rw w.2 refl)

some_words : (octets : List ℕ) → AreSome (words_of octets)
some_words [] = ([], [], refl)
some_words (octet ∷ octets) = some_or_more (octet == 32) octet (words_of octets) (some_words octets)

one_more : (test : Bool) (octet : ℕ) (last : List ℕ) (words : List (List ℕ)) → AreSome words
    → (if test then [] ∷ (words ++ last ∷ []) else with_first octet (words ++ last ∷ []))
    ≡ (if test then [] ∷ words else with_first octet words) ++ last ∷ []
one_more true octet last words w = refl
one_more false octet last words w = rw w.2 refl

words_cut : (front last : List ℕ) → HasNoSpace last
    → words_of (front ++ 32 ∷ last) ≡ words_of front ++ last ∷ []
words_cut [] last h = rw (one_word last h) refl
words_cut (octet ∷ front) last h =
    rw (words_cut front last h)
    (one_more (octet == 32) octet last (words_of front) (some_words front))

-- ---- A text and the word after it.

before_last : (word last : List ℕ) (words : List (List ℕ))
    → words_before word (words ++ last ∷ []) ≡ word ∷ words
before_last word last [] = refl
before_last word last (next ∷ words) = ap (λ rest. word ∷ rest) (before_last next last words)

last_is : (word last : List ℕ) (words : List (List ℕ)) → last_word word (words ++ last ∷ []) ≡ last
last_is word last [] = refl
last_is word last (next ∷ words) = last_is next last words

of_words : (front last word : List ℕ) (words : List (List ℕ))
    → join_with_byte 32 (word ∷ words) ≡ front
    → text_and_last ((word ∷ words) ++ last ∷ []) ≡ front ∷ last ∷ []
of_words front last word [] e = rw e refl
of_words front last word (next ∷ words) e =
    rw (before_last next last words, last_is next last words, e) refl

of_some : (front last : List ℕ) (words : List (List ℕ)) → AreSome words
    → join_with_byte 32 words ≡ front
    → text_and_last (words ++ last ∷ []) ≡ front ∷ last ∷ []
of_some front last words w e =
    let P : List (List ℕ) → Type 0 =
    λ x. join_with_byte 32 x ≡ front → text_and_last (x ++ last ∷ []) ≡ front ∷ last ∷ [] in
    subst P (sym w.2) (of_words front last w.0 w.1) e

pub text_cut : (octets front last : List ℕ) → octets ≡ front ++ 32 ∷ last → HasNoSpace last
    → text_and_last (words_of octets) ≡ front ∷ last ∷ []
text_cut octets front last e h =
    ap (λ x. text_and_last (words_of x)) e ∙ ap text_and_last (words_cut front last h)
    ∙ of_some front last (words_of front) (some_words front) (joined front)

pub text_whole : (octets : List ℕ) → HasNoSpace octets
    → text_and_last (words_of octets) ≡ words_of octets
text_whole octets h = ap text_and_last (one_word octets h) ∙ sym (one_word octets h)

-- ---- UTF-8

pub are_utf8 : (octets : List ℕ) → IsUtf8 octets → is_utf8 octets ≡ true
are_utf8 octets h = is_utf8-from_IsUtf8 octets h

pub not_utf8 : (octets : List ℕ) → ¬ (IsUtf8 octets) → is_utf8 octets ≡ false
not_utf8 octets n = by_test (is_utf8 octets) refl
  where
    by_test : (b : Bool) → is_utf8 octets ≡ b → b ≡ false
    by_test true e = absurd (n (IsUtf8-from_is_utf8 octets e))
    by_test false e = refl
