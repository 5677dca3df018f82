-- The remains of a typed line.
use Rattle.std.proofs.Common.{◌≡◌, ◌≢◌, ℕ, ◌==◌, List, [], ◌∷◌, ◌++◌, append-nil, refl, ap, ◌∙◌, sym}
use Rattle.std.specs.List.{flat_map, slice_split}
use Rattle.std.proofs.lemmas.Bool.{ne_eqb}
use Rattle.lapd_cli_console.specs.Tidied.{HasNoColon, before_trimmed, digits_of_part, digits_of_word, without_end}

-- ---- Spaces at the end.

space_dropped : (front : List ℕ) → without_end (front ++ 32 ∷ []) ≡ without_end front
space_dropped [] = refl
space_dropped (octet ∷ front) = ap (before_trimmed octet) (space_dropped front)

pub last_space : (octets rest : List ℕ) → octets ≡ rest ++ 32 ∷ []
    → without_end octets ≡ without_end rest
last_space octets rest e = ap without_end e ∙ space_dropped rest

before_some : (octet last : ℕ) (front : List ℕ)
    → before_trimmed octet (front ++ last ∷ []) ≡ octet ∷ front ++ last ∷ []
before_some octet last [] = refl
before_some octet last (next ∷ front) = refl

other_trimmed : (front : List ℕ) (last : ℕ) → last ≢ 32
    → without_end (front ++ last ∷ []) ≡ front ++ last ∷ []
other_trimmed [] last h = rw (ne_eqb _ _ h) refl
other_trimmed (octet ∷ front) last h =
    ap (before_trimmed octet) (other_trimmed front last h) ∙ before_some octet last front

pub last_other : (octets rest : List ℕ) (last : ℕ) → octets ≡ rest ++ last ∷ [] → last ≢ 32
    → without_end octets ≡ octets
last_other octets rest last e h = ap without_end e ∙ other_trimmed rest last h ∙ sym e

-- ---- The parts between colons.

one_part : (part : List ℕ) → HasNoColon part → slice_split (λ octet. octet == 58) part ≡ part ∷ []
one_part [] h = refl
one_part (octet ∷ part) h = rw (ne_eqb _ _ h.0, one_part part h.1) refl

parts_behind : (part behind : List ℕ) → HasNoColon part
    → slice_split (λ octet. octet == 58) (part ++ 58 ∷ behind) ≡ part
    ∷ slice_split (λ octet. octet == 58) behind
parts_behind [] behind h = refl
parts_behind (octet ∷ part) behind h = rw (ne_eqb _ _ h.0, parts_behind part behind h.1) refl

pub digits_cut : (word part behind : List ℕ) → word ≡ part ++ 58 ∷ behind → HasNoColon part
    → digits_of_word word ≡ digits_of_part part ++ digits_of_word behind
digits_cut word part behind e h =
    ap digits_of_word e ∙ ap (flat_map digits_of_part) (parts_behind part behind h)

pub digits_whole : (word : List ℕ) → HasNoColon word → digits_of_word word ≡ digits_of_part word
digits_whole word h =
    ap (flat_map digits_of_part) (one_part word h) ∙ append-nil (digits_of_part word)
