-- The last words of a line, read as one. A space is not a hexadecimal digit, so the rest of the
-- line either is one word of digits or does not spell octets.
use Rattle.std.proofs.Common.{◌≡◌, ◌≢◌, ℕ, ◌==◌, ◌+◌, ◌*◌, ◌⊎◌, inl, inr, Bool, true, false, List, [], ◌∷◌, None, Result, Ok, Err, if◌then◌else◌, refl, sym, ◌∙◌}
use Rattle.std.specs.Result.{result_ok}
use Rattle.std.proofs.Math.Dec.{eqb}
use Rattle.std.proofs.lemmas.Bool.Decides.{eqb_tells}
use Rattle.hex.specs.Hex.{◌>>=◌, decode_pairs, pair_value, value_at}
use Rattle.hex.specs.declared.error.FromHexError.{FromHexError}
use Rattle.hex.specs.declared.error.FromHexError.TheVariants.{OddLength}
use Rattle.lapd_cli_script.specs.Line.{HasNoSpace, octets_behind, octets_of, words_of}
use Rattle.lapd_cli_script.specs.Script.{with_first}
use Rattle.lapd_cli_script.proofs.WordsOf.{one_word}

-- one of these octets is a space
abbrev has_space : List ℕ → Bool
has_space [] = false
has_space (octet ∷ octets) = if octet == 32 then true else has_space octets

-- whether an octet is a space is decidable
abbrev IsSpaceOrNone : ℕ → Type 0
IsSpaceOrNone octet =
    ((eqb octet 32 ≡ true) × (octet ≡ 32)) ⊎ ((eqb octet 32 ≡ false) × (octet ≢ 32))

-- ---- Without a space, the rest is one word.

no_space_behind : (octet : ℕ) (octets : List ℕ) → has_space (octet ∷ octets) ≡ false
    → (has_space octets ≡ false → HasNoSpace octets) → IsSpaceOrNone octet
    → HasNoSpace (octet ∷ octets)
no_space_behind octet octets h rest (inl is) = let same = is.0 in absurd (cc)
no_space_behind octet octets h rest (inr not) = let other = not.0 in (not.1, rest (cc))

no_space : (octets : List ℕ) → has_space octets ≡ false → HasNoSpace octets
no_space [] h = tt
no_space (octet ∷ octets) h = no_space_behind octet octets h (no_space octets) (eqb_tells octet 32)

-- ---- With a space, the rest is at least two words.

abbrev AreSome : List (List ℕ) → Type 0
AreSome words = (first : List ℕ) × (more : List (List ℕ)) × (words ≡ first ∷ more)

abbrev AreTwo : List (List ℕ) → Type 0
AreTwo words =
    (first : List ℕ) × (second : List ℕ) × (more : List (List ℕ)) × (words ≡ first ∷ second ∷ more)

with_one : (test : Bool) (octet : ℕ) (words : List (List ℕ)) → AreSome words
    → AreSome (if test then [] ∷ words else with_first octet words)
with_one true octet words w = ([], words, refl)
with_one false octet words w = (octet ∷ w.0, w.1, rw w.2 refl)

some_words : (octets : List ℕ) → AreSome (words_of octets)
some_words [] = ([], [], refl)
some_words (octet ∷ octets) = with_one (octet == 32) octet (words_of octets) (some_words octets)

two_words_behind : (octet : ℕ) (octets : List ℕ) → has_space (octet ∷ octets) ≡ true
    → (has_space octets ≡ true → AreTwo (words_of octets)) → IsSpaceOrNone octet
    → AreTwo (words_of (octet ∷ octets))
two_words_behind octet octets h rest (inl is) =
    let w = some_words octets in ([], w.0, w.1, rw (is.0, w.2) refl)
two_words_behind octet octets h rest (inr not) =
    let other = not.0 in
    let w = rest (cc) in
    (octet ∷ w.0, w.1, w.2, rw (not.0, w.3) refl)

two_words : (octets : List ℕ) → has_space octets ≡ true → AreTwo (words_of octets)
two_words [] h = absurd (cc)
two_words (octet ∷ octets) h =
    two_words_behind octet octets h (two_words octets) (eqb_tells octet 32)

none_behind : (words : List (List ℕ)) → AreTwo words → octets_behind words ≡ None
none_behind words w = rw w.3 refl

-- ---- Two words or more spell no octets.

bad_second : (high : Result ℕ FromHexError) (i : ℕ) (more : ℕ → Result (List ℕ) FromHexError)
    → result_ok ((high >>= (λ h. value_at 32 (i + 1) >>= (λ l. Ok (h * 16 + l)))) >>= more) ≡ None
bad_second (Ok h) i more = refl
bad_second (Err e) i more = refl

bad_rest : (byte : Result ℕ FromHexError) (bytes : Result (List ℕ) FromHexError)
    → result_ok bytes ≡ None → result_ok (byte >>= (λ b. bytes >>= (λ rest. Ok (b ∷ rest)))) ≡ None
bad_rest (Err e) bytes h = refl
bad_rest (Ok b) (Err e) h = refl
bad_rest (Ok b) (Ok rest) h = absurd (cc)

undecoded_behind : (i high low : ℕ) (octets : List ℕ) → has_space (high ∷ low ∷ octets) ≡ true
    → (has_space octets ≡ true → result_ok (decode_pairs (i + 2) octets) ≡ None)
    → IsSpaceOrNone high → IsSpaceOrNone low
    → result_ok (decode_pairs i (high ∷ low ∷ octets)) ≡ None
unfolding decode_pairs
undecoded_behind i high low octets h rest (inl is) reporting = rw is.1 refl
undecoded_behind i high low octets h rest (inr not) (inl is) =
    rw is.1 (bad_second (value_at high i) i _)
undecoded_behind i high low octets h rest (inr not) (inr neither) =
    let first = not.0 in
    let second = neither.0 in
    bad_rest (pair_value high low i) (decode_pairs (i + 2) octets) (rest (cc))

undecoded : (i : ℕ) (octets : List ℕ) → has_space octets ≡ true
    → result_ok (decode_pairs i octets) ≡ None
unfolding decode_pairs
undecoded i [] h = absurd (cc)
undecoded i (digit ∷ []) h = refl
undecoded i (high ∷ low ∷ octets) h =
    undecoded_behind i high low octets h (undecoded (i + 2) octets) (eqb_tells high 32)
    (eqb_tells low 32)

either_way : (test : Bool) (octets : List ℕ) → result_ok (decode_pairs 0 octets) ≡ None
    → result_ok (if test then Err OddLength else decode_pairs 0 octets) ≡ None
either_way true octets h = refl
either_way false octets h = h

-- ---- So the rest of a line can be decoded as one text.

by_space : (test : Bool) (octets : List ℕ) → has_space octets ≡ test
    → octets_behind (words_of octets) ≡ octets_of octets
by_space false octets h = rw (one_word octets (no_space octets h)) refl
by_space true [] h = absurd (cc)
by_space true (octet ∷ octets) h =
    none_behind _ (two_words (octet ∷ octets) h)
    ∙ sym (either_way _ (octet ∷ octets) (undecoded 0 (octet ∷ octets) h))

pub last_words : (octets : List ℕ) → octets_behind (words_of octets) ≡ octets_of octets
last_words octets = by_space (has_space octets) octets refl
