-- The lines of octets, by their line feeds.
use Rattle.std.proofs.Common.{◌≡◌, ◌≢◌, ℕ, zero, suc, ◌+◌, ◌-◌, ◌<◌, ◌≤◌, ◌^◌, min, ltb, nat_lt, arith, List, [], ◌∷◌, ◌++◌, Bool, true, false, cond, None, Some, Result, Ok, Err, IsOk, OnOk, take, length, slice_get, option_map, refl, sym, ap, ◌∙◌, append-nil}
use Rattle.std.specs.List.{onto_first}
use Rattle.std.proofs.lemmas.Bool.{ne_eqb}
use Rattle.std.proofs.lemmas.Bool.Decides.{nat_tests}
use Rattle.std.proofs.lemmas.List.{take_all}
use Rattle.std.proofs.Math.Seq.{take-append-add, take-length}
use Rattle.lapd_cli_script.specs.Script.{lines_of, with_first}
use Rattle.lapd_cli_script.specs.WalkState.{HasNoFeed}
use Rattle.lapd_cli_console.specs.Recent.{ReadOctets, after_octets, by_count, feeds, is_feed, kept_line, line_begun, line_front, lines_in}

-- ---- Line feeds.

pub no_feeds : (octets : List ℕ) → HasNoFeed octets → feeds octets ≡ 0
no_feeds [] h = refl
no_feeds (o ∷ octets) h = rw (ne_eqb o 10 h.0) (no_feeds octets h.1)

pub feeds-append : (a b : List ℕ) → feeds (a ++ b) ≡ feeds a + feeds b
feeds-append [] b = omega arith
feeds-append (o ∷ a) b = by_test (is_feed o) (feeds-append a b)
  where
    by_test : (t : Bool) → feeds (a ++ b) ≡ feeds a + feeds b
        → cond t (suc (feeds (a ++ b))) (feeds (a ++ b)) ≡ cond t (suc (feeds a)) (feeds a)
        + feeds b
    by_test true e = rw e (omega arith)
    by_test false e = e

pub feeds-cut : (octets front behind : List ℕ) → octets ≡ front ++ 10 ∷ behind → HasNoFeed front
    → feeds octets ≡ suc (feeds behind)
feeds-cut octets front behind e h =
    ap feeds e ∙ feeds-append front (10 ∷ behind)
    ∙ ap (λ n. n + suc (feeds behind)) (no_feeds front h) ∙ omega arith

-- ---- The front of a line, and its beginning.

pub front_whole : (octets : List ℕ) → HasNoFeed octets → line_front octets ≡ octets
front_whole [] h = refl
front_whole (o ∷ octets) h = rw (ne_eqb o 10 h.0) (ap (λ x. o ∷ x) (front_whole octets h.1))

pub front_cut : (octets front behind : List ℕ) → octets ≡ front ++ 10 ∷ behind → HasNoFeed front
    → line_front octets ≡ front
front_cut octets front behind e h = ap line_front e ∙ by_front front h
  where
    by_front : (front : List ℕ) → HasNoFeed front → line_front (front ++ 10 ∷ behind) ≡ front
    by_front [] h = refl
    by_front (o ∷ front) h = rw (ne_eqb o 10 h.0) (ap (λ x. o ∷ x) (by_front front h.1))

begun_whole : (octets : List ℕ) → feeds octets ≡ 0 → line_begun octets ≡ octets
begun_whole [] e = refl
begun_whole (o ∷ octets) e = ap (λ n. by_count n (o ∷ octets) (line_begun octets)) e

begun_behind : (o : ℕ) (octets : List ℕ) (n : ℕ) → feeds (o ∷ octets) ≡ suc n
    → line_begun (o ∷ octets) ≡ line_begun octets
begun_behind o octets n e = ap (λ n. by_count n (o ∷ octets) (line_begun octets)) e

-- behind octets without a line feed, a line goes on
pub begun_more : (a b : List ℕ) → feeds b ≡ 0 → line_begun (a ++ b) ≡ line_begun a ++ b
begun_more [] b e = begun_whole b e
begun_more (o ∷ a) b e = by_feeds (begun_more a b e) (feeds (o ∷ a)) refl
  where
    by_feeds : line_begun (a ++ b) ≡ line_begun a ++ b → (n : ℕ) → feeds (o ∷ a) ≡ n
        → line_begun (o ∷ (a ++ b)) ≡ line_begun (o ∷ a) ++ b
    by_feeds rest zero k =
        let none : feeds (o ∷ (a ++ b)) ≡ 0 = let m = feeds-append (o ∷ a) b in omega arith in
        begun_whole (o ∷ (a ++ b)) none ∙ ap (λ x. x ++ b) (sym (begun_whole (o ∷ a) k))
    by_feeds rest (suc n) k =
        let some : feeds (o ∷ (a ++ b)) ≡ suc n = let m = feeds-append (o ∷ a) b in omega arith in
        begun_behind o (a ++ b) n some ∙ rest ∙ ap (λ x. x ++ b) (sym (begun_behind o a n k))

-- a line begins behind the last line feed
pub begun_cut : (a front behind : List ℕ) → HasNoFeed behind
    → line_begun (a ++ (front ++ 10 ∷ behind)) ≡ behind
begun_cut [] [] behind h =
    begun_behind 10 behind (feeds behind) refl ∙ begun_whole behind (no_feeds behind h)
begun_cut [] (o ∷ front) behind h =
    let n : feeds (o ∷ (front ++ 10 ∷ behind)) ≡ suc (feeds (o ∷ front) + feeds behind) =
    let m = feeds-append (o ∷ front) (10 ∷ behind) in omega arith in
    begun_behind o (front ++ 10 ∷ behind) (feeds (o ∷ front) + feeds behind) n
    ∙ begun_cut [] front behind h
begun_cut (o ∷ a) front behind h =
    let n : feeds (o ∷ (a ++ (front ++ 10 ∷ behind))) ≡ suc
    (feeds (o ∷ a) + (feeds front + feeds behind)) =
    feeds-append (o ∷ a) (front ++ 10 ∷ behind)
    ∙ ap (λ k. feeds (o ∷ a) + k) (feeds-append front (10 ∷ behind)) ∙ omega arith in
    begun_behind o (a ++ (front ++ 10 ∷ behind)) (feeds (o ∷ a) + (feeds front + feeds behind)) n
    ∙ begun_cut a front behind h

-- ---- A line by its place.

onto_zero : (o : ℕ) (line : List ℕ) (lines : List (List ℕ)) → slice_get lines 0 ≡ Some line
    → slice_get (onto_first o lines) 0 ≡ Some (o ∷ line)
onto_zero o line [] e = absurd cc
onto_zero o line (x ∷ lines) e = let same : x ≡ line = cc in ap (λ y. Some (o ∷ y)) same

onto_more : (o n : ℕ) (lines : List (List ℕ))
    → slice_get (onto_first o lines) (suc n) ≡ slice_get lines (suc n)
onto_more o n [] = refl
onto_more o n (x ∷ lines) = refl

pub first_front : (octets : List ℕ) → slice_get (lines_in octets) 0 ≡ Some (line_front octets)
first_front [] = refl
first_front (o ∷ octets) = by_test (first_front octets) (is_feed o)
  where
    by_test : slice_get (lines_in octets) 0 ≡ Some (line_front octets)
        → (t : Bool)
        → slice_get (cond t ([] ∷ lines_in octets) (onto_first o (lines_in octets))) 0
        ≡ Some (cond t [] (o ∷ line_front octets))
    by_test e true = refl
    by_test e false = onto_zero o (line_front octets) (lines_in octets) e

-- the line that has begun in a and goes on in b
pub line_between : (a b : List ℕ)
    → slice_get (lines_in (a ++ b)) (feeds a) ≡ Some (line_begun a ++ line_front b)
line_between [] b = first_front b
line_between (o ∷ a) b = by_test (line_between a b) (is_feed o)
  where
    by_feeds : slice_get (lines_in (a ++ b)) (feeds a) ≡ Some (line_begun a ++ line_front b)
        → (n : ℕ) → feeds a ≡ n
        → slice_get (onto_first o (lines_in (a ++ b))) n
        ≡ Some (by_count n (o ∷ a) (line_begun a) ++ line_front b)
    by_feeds h zero e = onto_zero o (a ++ line_front b) (lines_in (a ++ b))
        (ap (slice_get (lines_in (a ++ b))) (sym e) ∙ h
        ∙ ap (λ x. Some (x ++ line_front b)) (begun_whole a e))
    by_feeds h (suc n) e =
        onto_more o n (lines_in (a ++ b)) ∙ ap (slice_get (lines_in (a ++ b))) (sym e) ∙ h

    by_test : slice_get (lines_in (a ++ b)) (feeds a) ≡ Some (line_begun a ++ line_front b)
        → (t : Bool)
        → slice_get (cond t ([] ∷ lines_in (a ++ b)) (onto_first o (lines_in (a ++ b))))
        (cond t (suc (feeds a)) (feeds a))
        ≡ Some (by_count (cond t (suc (feeds a)) (feeds a)) (o ∷ a) (line_begun a) ++ line_front b)
    by_test h true = h
    by_test h false = by_feeds h (feeds a) refl

-- a line that begins in b
pub line_behind : (a b : List ℕ) (m n : ℕ) → n ≡ feeds a + suc m
    → slice_get (lines_in (a ++ b)) n ≡ slice_get (lines_in b) (suc m)
line_behind [] b m n e = ap (slice_get (lines_in b)) (let k : n ≡ suc m = omega arith in k)
line_behind (o ∷ a) b m zero e = absurd (omega arith)
line_behind (o ∷ a) b m (suc n) e = by_test (line_behind a b m) (is_feed o) e
  where
    by_test : ((k : ℕ) → k ≡ feeds a + suc m
        → slice_get (lines_in (a ++ b)) k ≡ slice_get (lines_in b) (suc m))
        → (t : Bool) → suc n ≡ cond t (suc (feeds a)) (feeds a) + suc m
        → slice_get (cond t ([] ∷ lines_in (a ++ b)) (onto_first o (lines_in (a ++ b)))) (suc n)
        ≡ slice_get (lines_in b) (suc m)
    by_test h true k = h n (omega arith)
    by_test h false k = onto_more o n (lines_in (a ++ b)) ∙ h (suc n) k

-- the lines behind a line feed
pub lines_cut : (octets front behind : List ℕ) (n : ℕ) → octets ≡ front ++ 10 ∷ behind
    → HasNoFeed front → slice_get (lines_in octets) (suc n) ≡ slice_get (lines_in behind) n
lines_cut octets front behind n e h =
    let none = no_feeds front h in
    ap (λ x. slice_get (lines_in x) (suc n)) e
    ∙ line_behind front (10 ∷ behind) n (suc n) (omega arith)

pub only_line : (octets : List ℕ) (n : ℕ) → HasNoFeed octets
    → slice_get (lines_in octets) (suc n) ≡ None
only_line [] n h = refl
only_line (o ∷ octets) n h =
    rw (ne_eqb o 10 h.0) (onto_more o n (lines_in octets) ∙ only_line octets n h.1)

-- ---- The first octets of a line.

take_twice : (n : ℕ) (xs ys : List ℕ) → take n (take n xs ++ ys) ≡ take n (xs ++ ys)
take_twice zero xs ys = refl
take_twice (suc n) [] ys = refl
take_twice (suc n) (x ∷ xs) ys = ap (λ zs. x ∷ zs) (take_twice n xs ys)

pub longer_front : (xs ys zs : List ℕ) → zs ≡ take 4096 (take 4096 (xs ++ []) ++ ys)
    → zs ≡ take 4096 (xs ++ ys)
longer_front xs ys zs e =
    e ∙ ap (λ l. take 4096 (take 4096 l ++ ys)) (append-nil xs) ∙ take_twice 4096 xs ys

pub take_min : (n : ℕ) (xs : List ℕ) → take (min (length xs) n) xs ≡ take n xs
take_min n xs = by_room (ltb n (length xs)) refl
  where
    by_room : (t : Bool) → ltb n (length xs) ≡ t → take (min (length xs) n) xs ≡ take n xs
    by_room true e =
        let few : min (length xs) n ≡ n = grind (arith, nat_tests) in ap (λ k. take k xs) few
    by_room false e =
        let all : min (length xs) n ≡ length xs = grind (arith, nat_tests) in
        let rest : length xs ≤ n = grind (arith, nat_tests) in
        ap (λ k. take k xs) all ∙ take-length xs ∙ sym (take_all n xs rest)

pub lengthened : (room count : ℕ) (old octets new : List ℕ) → room + length old ≡ 4096
    → count ≡ min (length octets) room → new ≡ old ++ take count octets
    → new ≡ take 4096 (old ++ octets)
lengthened room count old octets new e k h =
    h ∙ ap (λ n. old ++ take n octets) k ∙ ap (λ xs. old ++ xs) (take_min room octets)
    ∙ sym (take-append-add old octets room)
    ∙ ap (λ n. take n (old ++ octets)) (let n : length old + room ≡ 4096 = omega arith in n)

-- ---- Counting lines, and beginning the next one.

pub ended_none : (before last : List ℕ) → HasNoFeed last → feeds before ≡ feeds (before ++ last)
ended_none before last h =
    let n = no_feeds last h in let m = feeds-append before last in omega arith

pub head_none : (before last head : List ℕ) → HasNoFeed last
    → head ≡ take 4096 (line_begun before ++ line_front last)
    → head ≡ take 4096 (line_begun (before ++ last))
head_none before last head h e =
    e ∙ ap (λ x. take 4096 (line_begun before ++ x)) (front_whole last h)
    ∙ ap (take 4096) (sym (begun_more before last (no_feeds last h)))

pub head_some : (before last front behind : List ℕ) → last ≡ front ++ 10 ∷ behind → HasNoFeed behind
    → behind ≡ line_begun (before ++ last)
head_some before last front behind e h =
    sym (ap (λ x. line_begun (before ++ x)) e ∙ begun_cut before front behind h)

-- ---- The kept lines.

pub after_some : (r : ReadOctets) (octets : List ℕ) → octets ≢ []
    → after_octets r octets ≡ record { before = r.before ++ r.last; last = octets }
after_some r [] n = absurd (n refl)
after_some r (o ∷ octets) n = refl

is_kept : (r : ReadOctets) (number : ℕ) → feeds r.before < number
    → kept_line r number
    ≡ option_map (take 4096) (slice_get (lines_in (r.before ++ r.last)) (number - 1))
is_kept r number h = let t : nat_lt (feeds r.before) number ≡ true = grind (arith, nat_tests) in
    ap (λ b. cond b
    (option_map (take 4096) (slice_get (lines_in (r.before ++ r.last)) (number - 1))) None)
    t

pub head_kept : (r : ReadOctets) (number ended : ℕ) (head : List ℕ) → 1 ≤ number → number < 2 ^ 64
    → ended ≡ min (feeds r.before) (2 ^ 64 - 1) → number - 1 ≡ ended
    → head ≡ take 4096 (line_begun r.before ++ line_front r.last) → Some head ≡ kept_line r number
head_kept r number ended head a b c e h =
    let same : number - 1 ≡ feeds r.before = omega arith in
    sym (is_kept r number (omega arith)
    ∙ ap (λ n. option_map (take 4096) (slice_get (lines_in (r.before ++ r.last)) n)) same
    ∙ ap (option_map (take 4096)) (line_between r.before r.last)
    ∙ ap Some (sym h))

pub line_kept : (r : ReadOctets) (number ended place : ℕ) → 1 ≤ number → number < 2 ^ 64
    → ended ≡ min (feeds r.before) (2 ^ 64 - 1) → number - 1 ≡ ended + place → 0 < place
    → kept_line r number ≡ option_map (take 4096) (slice_get (lines_in r.last) place)
line_kept r number ended zero a b c e h = absurd (omega arith)
line_kept r number ended (suc place) a b c e h =
    is_kept r number (omega arith)
    ∙ ap (option_map (take 4096)) (line_behind r.before r.last place (number - 1) (omega arith))

pub on_ok : {T E P : Type 0} (r : Result T E) → IsOk r → OnOk r P → P
on_ok (Ok x) h k = k
on_ok (Err e) h k = absurd cc

-- ---- The lines of a script are kept under their numbers.

none_left : (octets : List ℕ) → lines_of octets ≡ [] → octets ≡ []
none_left [] e = refl
none_left (o ∷ octets) e = absurd (by_test (is_feed o) (lines_of octets) e)
  where
    by_test : (t : Bool) (lines : List (List ℕ)) → cond t ([] ∷ lines) (with_first o lines) ≡ [] → ⊥
    by_test true lines e = cc
    by_test false [] e = cc
    by_test false (line ∷ lines) e = cc

joined : (o : ℕ) (octets : List ℕ) (lines : List (List ℕ)) → lines_of octets ≡ lines
    → ((n : ℕ) (line : List ℕ) → slice_get (lines_of octets) n
    ≡ Some line → slice_get (lines_in octets) n ≡ Some line)
    → (n : ℕ) (line : List ℕ) → slice_get (with_first o lines) n ≡ Some line
    → slice_get (onto_first o (lines_in octets)) n ≡ Some line
joined o octets [] e h zero line k =
    ap (λ x. slice_get (onto_first o (lines_in x)) 0) (none_left octets e) ∙ k
joined o octets [] e h (suc n) line k = absurd cc
joined o octets (first ∷ lines) e h zero line k =
    onto_zero o first (lines_in octets) (h 0 first (ap (λ x. slice_get x 0) e)) ∙ k
joined o octets (first ∷ lines) e h (suc n) line k =
    onto_more o n (lines_in octets) ∙ h (suc n) line (ap (λ x. slice_get x (suc n)) e ∙ k)

lines_agree : (octets : List ℕ) (n : ℕ) (line : List ℕ) → slice_get (lines_of octets) n ≡ Some line
    → slice_get (lines_in octets) n ≡ Some line
lines_agree [] n line e = absurd cc
lines_agree (o ∷ octets) n line e = by_test (lines_agree octets) (is_feed o) n line e
  where
    by_test : ((n : ℕ) (line : List ℕ) → slice_get (lines_of octets) n
        ≡ Some line → slice_get (lines_in octets) n ≡ Some line)
        → (t : Bool) (n : ℕ) (line : List ℕ)
        → slice_get (cond t ([] ∷ lines_of octets) (with_first o (lines_of octets))) n
        ≡ Some line
        → slice_get (cond t ([] ∷ lines_in octets) (onto_first o (lines_in octets))) n ≡ Some line
    by_test h true zero line k = k
    by_test h true (suc n) line k = h n line k
    by_test h false n line k = joined o octets (lines_of octets) refl h n line k

pub line_of_script : (r : ReadOctets) (place : ℕ) (line : List ℕ) → feeds r.before ≤ place
    → slice_get (lines_of (r.before ++ r.last)) place ≡ Some line
    → kept_line r (place + 1) ≡ Some (take 4096 line)
line_of_script r place line h e =
    let same : place + 1 - 1 ≡ place = omega arith in
    is_kept r (place + 1) (omega arith)
    ∙ ap (λ n. option_map (take 4096) (slice_get (lines_in (r.before ++ r.last)) n)) same
    ∙ ap (option_map (take 4096)) (lines_agree (r.before ++ r.last) place line e)
