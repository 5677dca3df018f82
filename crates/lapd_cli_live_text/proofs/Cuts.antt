-- A text that is cut at an octet, and what it says of the words of a line and of the parts of a word.
use Rattle.std.proofs.Common.{◌≡◌, ◌≢◌, ℕ, ◌<◌, suc, List, [], ◌∷◌, ◌++◌, length, get_or, Option, None, Some, MatchOption, option_map, refl, sym, ap, ◌∙◌, arith}
use Rattle.std.specs.List.{AllByRecursion}
use Rattle.std.proofs.lemmas.Bool.{ne_eqb}
use denote.Ref.{Bor}
use Rattle.lapd_cli_script.specs.Line.{words_of}
use Rattle.lapd_cli_script.proofs.WordsOf.{one_word, words_behind}
use Rattle.lapd_cli_live_text.specs.LineObjects.{parts_at_equals}

-- no octet of a text is this one
pub none_of : (octet : ℕ) (octets : List ℕ)
    → ((i : ℕ) → i < length octets → get_or octets i 0 ≢ octet)
    → AllByRecursion (λ other. other ≢ octet) octets
none_of octet [] h = tt
none_of octet (first ∷ octets) h =
    (h 0 (omega arith), none_of octet octets (λ i within. h (suc i) (omega arith)))

pub no_equals : (word : List ℕ) → AllByRecursion (λ other. other ≢ 61) word
    → parts_at_equals word ≡ None
no_equals [] h = refl
no_equals (octet ∷ word) h = rw (ne_eqb _ _ h.0, no_equals word h.1) refl

pub equals_behind : (name digits : List ℕ) → AllByRecursion (λ other. other ≢ 61) name
    → parts_at_equals (name ++ 61 ∷ digits) ≡ Some (name, digits)
equals_behind [] digits h = refl
equals_behind (octet ∷ name) digits h = rw (ne_eqb _ _ h.0, equals_behind name digits h.1) refl

-- a text and where it is cut at the first octet of this kind, if it has one
abbrev pub IsCut : ℕ → List ℕ → Option (Bor (List ℕ) × Bor (List ℕ)) → Type 0
IsCut octet octets cut = MatchOption cut ((i : ℕ) → i < length octets → get_or octets i 0 ≢ octet)
    (λ parts. (octets ≡ parts.0.now ++ (octet ∷ parts.1.now)) ×
    ((i : ℕ) → i < length parts.0.now → get_or parts.0.now i 0 ≢ octet))

pub cut_words : (line : List ℕ) (cut : Option (Bor (List ℕ) × Bor (List ℕ))) → IsCut 32 line cut
    → MatchOption cut (words_of line ≡ line ∷ [])
    (λ parts. words_of line ≡ parts.0.now ∷ words_of parts.1.now)
cut_words line None none = one_word line (none_of 32 line none)
cut_words line (Some (word, rest)) parts =
    ap words_of parts.0 ∙ words_behind word.now rest.now (none_of 32 word.now parts.1)

pub cut_word : (word : List ℕ) (cut : Option (Bor (List ℕ) × Bor (List ℕ))) → IsCut 61 word cut
    → option_map (λ (parts : Bor (List ℕ) × Bor (List ℕ)). (parts.0.now, parts.1.now)) cut
    ≡ parts_at_equals word
cut_word word None none = sym (no_equals word (none_of 61 word none))
cut_word word (Some (name, digits)) parts =
    sym
    (ap parts_at_equals parts.0 ∙ equals_behind name.now digits.now (none_of 61 name.now parts.1))
