-- How a line represents the frames in transit when one is appended, removed or lost, and how it
-- finds the first marked frame.
use Rattle.std.proofs.Common.{Bor, is_some, IsSome, IfNone, ◌≡◌, ◌<◌, ◌+◌, ◌-◌, ◌≤◌, ℕ, zero, suc, Bool, true, false, not, cond, if◌then◌else◌, nat_lt, List, [], ◌∷◌, ◌++◌, length, map, set, take, drop, slice_range, le_refl, Option, None, Some, Result, Ok, refl, sym, ap, ◌∙◌, subst, arith}
use Rattle.std.proofs.lemmas.Bool.Decides.{nat_tests}
use Rattle.std.proofs.lemmas.List.{map-append, append_assoc, length-append, length-map, length-drop, drop-map, drop-drop, drop-append-le, drop-take, drop_at, take_at, take-take, take_more_set, length-take-le}
use Rattle.std.proofs.lemmas.Slice.{between_to_end}
use Rattle.std.specs.Option.{unwrap_or}
use borrow.Rule.Slice.PartMut.{put_mid}
use Rattle.std.specs.List.{position, position_or_len, remove}
use Rattle.arrayvec.specs.ArrayVec.{ArrayVec}
use Rattle.lapd_frame.specs.declared.Side.{Side}
use Rattle.lapd_frame.specs.declared.Role.{Role}
use Rattle.lapd_frame.specs.declared.FrameFault.{FrameFault}
use Rattle.lapd_frame.specs.Frame.{Fields, IsFrame, spelling}
use Rattle.lapd_frame.specs.Reading.{frame_at}
use Rattle.lapd_frame.proofs.FrameAt.{frame_again}
use Rattle.lapd_pair_laws.specs.Line.{Flight, is_poll, is_final, sent_behind, without_lost}
use Rattle.lapd_pair.specs.declared.line.Line.{Line}
use Rattle.lapd_pair.specs.Line.{fields_of, AreFrames, octets_on, polls_passed, finals_passed, IsOn, IsFirst}
use Rattle.lapd_pair.specs.Marks.{is_marked, is_read_marked, place_of_marked, left_of}

-- the octets of a frame in transit
abbrev spelled_by : Side → Flight → List ℕ
spelled_by from frame = spelling from (fields_of frame)

-- ---- The index of the first element that passes a test.

-- the index in a list whose rest has index n: 0 if the first element passes the test, else 1 + n
abbrev behind_first : Bool → ℕ → ℕ
behind_first fails n = cond fails (1 + n) 0

at_most : (fails : Bool) (m n : ℕ) → m ≤ n → behind_first fails m ≤ behind_first fails n
at_most true m n h = omega (arith, h)
at_most false m n h = omega arith

one_less : (fails : Bool) (m n : ℕ) → m ≤ 1 + n → behind_first fails m ≤ 1 + behind_first fails n
one_less true m n h = omega (arith, h)
one_less false m n h = omega arith

all_behind : (fails : Bool) (m : ℕ) → behind_first fails m ≤ 1 + m
all_behind true m = omega arith
all_behind false m = omega arith

stays : (fails : Bool) (m n count : ℕ) → suc count ≤ behind_first fails m → (count ≤ m → count ≤ n)
    → suc count ≤ behind_first fails n
stays true m n count h f = let less : count ≤ n = f (omega (arith, h)) in omega (arith, less)
stays false m n count h f = absurd (omega (arith, h))

adds : (fails : Bool) (m n count : ℕ) → suc count ≤ behind_first fails m
    → (count ≤ m → count + n ≡ m) → suc count + n ≡ behind_first fails m
adds true m n count h f = let sum : count + n ≡ m = f (omega (arith, h)) in omega (arith, sum)
adds false m n count h f = absurd (omega (arith, h))

at_most_as : (m n k : ℕ) → m ≡ n → n ≤ k → m ≤ k
at_most_as m n k same h = omega (arith, same, h)

place_more : {X : Type 0} (test : X → Bool) (xs ys : List X)
    → position_or_len test xs ≤ position_or_len test (xs ++ ys)
place_more test [] ys = omega arith
place_more test (x ∷ xs) ys =
    at_most (not (test x)) (position_or_len test xs) (position_or_len test (xs ++ ys))
    (place_more test xs ys)

place_after : {X : Type 0} (test : X → Bool) (x : X) (xs : List X)
    → position_or_len test (x ∷ xs) ≤ 1 + position_or_len test xs
place_after test x xs = all_behind (not (test x)) (position_or_len test xs)

place_less : {X : Type 0} (test : X → Bool) (xs : List X) (place : ℕ)
    → position_or_len test xs ≤ 1 + position_or_len test (remove xs place)
place_less test [] zero = omega arith
place_less test [] (suc n) = omega arith
place_less test (x ∷ xs) zero = place_after test x xs
place_less test (x ∷ xs) (suc n) =
    one_less (not (test x)) (position_or_len test xs) (position_or_len test (remove xs n))
    (place_less test xs n)

place_stays : {X : Type 0} (test : X → Bool) (xs : List X) (place count : ℕ) → count ≤ place
    → count ≤ position_or_len test xs → count ≤ position_or_len test (remove xs place)
place_stays test xs place zero few h = omega arith
place_stays test xs zero (suc count) few h = absurd (omega (arith, few))
place_stays test [] (suc n) (suc count) few h = absurd (omega (arith, h))
place_stays test (x ∷ xs) (suc n) (suc count) few h =
    stays (not (test x)) (position_or_len test xs) (position_or_len test (remove xs n)) count h
    (place_stays test xs n count (omega (arith, few)))

left_where : {X : Type 0} (less : Bool) (test : X → Bool) (xs : List X) (place count : ℕ)
    → nat_lt place count ≡ less → count ≤ position_or_len test xs
    → (if less then count - 1 else count) ≤ position_or_len test (remove xs place)
left_where true test xs place count is h =
    let one = place_less test xs place in omega (arith, one, h)
left_where false test xs place count is h =
    let few : count ≤ place = grind (arith, nat_tests) in place_stays test xs place count few h

place_without : {X : Type 0} (test : X → Bool) (xs : List X) (place count : ℕ)
    → count ≤ position_or_len test xs → left_of place count ≤ position_or_len test (remove xs place)
place_without test xs place count h = left_where (nat_lt place count) test xs place count refl h

-- skipping elements that fail the test does not change which element is first
place_behind : {X : Type 0} (test : X → Bool) (count : ℕ) (xs : List X)
    → count ≤ position_or_len test xs
    → count + position_or_len test (drop count xs) ≡ position_or_len test xs
place_behind test zero xs h = omega arith
place_behind test (suc count) [] h = absurd (omega (arith, h))
place_behind test (suc count) (x ∷ xs) h =
    adds (not (test x)) (position_or_len test xs) (position_or_len test (drop count xs)) count h
    (place_behind test count xs)

-- ---- One more frame.

frames_more : (frames : List Flight) (sent : Flight) → AreFrames frames → IsFrame (fields_of sent)
    → AreFrames (frames ++ sent ∷ [])
frames_more [] sent g h = (h, tt)
frames_more (frame ∷ frames) sent g h = (g.0, frames_more frames sent g.1 h)

-- an appended frame does not invalidate how many frames a search has passed
no_further : (test : Flight → Bool) (frames : List Flight) (sent : Flight) (before after : ℕ)
    → after ≡ before → before ≤ position_or_len test frames
    → after ≤ position_or_len test (sent_behind frames sent)
no_further test frames sent before after same h =
    let more = place_more test frames (sent ∷ []) in omega (arith, same, h, more)

pub one_behind : (from : Side) (old new : Line) (frames : List Flight) (sent : Flight) (f : Fields)
    → octets_on new ≡ octets_on old ++ spelling from f ∷ [] → polls_passed new ≡ polls_passed old
    → finals_passed new ≡ finals_passed old → IsFrame f
    → IsOn from old frames → fields_of sent ≡ f → IsOn from new (sent_behind frames sent)
one_behind from old new frames sent f e polls finals g o same = record {
  octets =
      e ∙ ap (λ l. l ++ spelling from f ∷ []) o.octets
      ∙ ap (λ x. map (spelled_by from) frames ++ spelling from x ∷ []) (sym same)
      ∙ sym (map-append (spelled_by from) frames (sent ∷ []));
  grammar = frames_more frames sent o.grammar (subst IsFrame (sym same) g);
  polls = no_further is_poll frames sent (polls_passed old) (polls_passed new) polls o.polls;
  finals = no_further is_final frames sent (finals_passed old) (finals_passed new) finals o.finals;
}

-- the line represents the same frames if its octets are the same and no search has passed a frame
-- of its kind
pub shown_on : (from : Side) (old new : Line) (frames : List Flight) → octets_on new ≡ octets_on old
    → polls_passed new ≤ position_or_len is_poll frames
    → finals_passed new ≤ position_or_len is_final frames → IsOn from old frames
    → IsOn from new frames
shown_on from old new frames e polls finals o =
    record { octets = e ∙ o.octets; grammar = o.grammar; polls = polls; finals = finals }

-- index `first + count` lies `count` after `first`
pub counted_from : (first count : ℕ) → first + count - first ≡ count
counted_from first count = omega arith

pub found_passed : (first place n : ℕ) → place ≡ n → first + place - first ≤ n
found_passed first place n same = omega (arith, same)

-- ---- Indices at the front and at the end.

-- the elements between two indices
pub between : {X : Type 0} (first end : ℕ) (xs : List X) → first ≤ end
    → take (end - first) (drop first xs) ≡ drop first (take end xs)
between first end xs h =
    let whole : end ≡ first + (end - first) = omega arith in
    sym (drop-take first (end - first) xs) ∙ ap (λ n. drop first (take n xs)) (sym whole)

-- the octets on the line after a frame is written into the slot after the last
pub octets_more : (first end : ℕ) (items : List (ArrayVec ℕ)) (frame : ArrayVec ℕ) → first ≤ end
    → end < length items
    → map (λ frame. frame.items) (drop first (take (end + 1) (set items end frame)))
    ≡ map (λ frame. frame.items) (drop first (take end items)) ++ frame.items ∷ []
octets_more first end items frame h within =
    let taken : first ≤ length (take end items) = rw (length-take-le end items (omega arith)) h in
    rw (
      take_more_set items end frame within,
      drop-append-le first (take end items) (frame ∷ []) taken,
    )
    (map-append (λ (frame : ArrayVec ℕ). frame.items) (drop first (take end items))
    (frame ∷ []))

-- the octets on the line after its frames moved to the front
pub octets_in_front : (first end : ℕ) (old new : List (ArrayVec ℕ)) → first ≤ end
    → take (end - first) new ≡ take (end - first) (drop first old)
    → map (λ frame. frame.items) (drop 0 (take (end - first) new))
    ≡ map (λ frame. frame.items) (drop first (take end old))
octets_in_front first end old new h e =
    ap (map (λ (frame : ArrayVec ℕ). frame.items)) (e ∙ between first end old h)

-- the octets of the frames after the first `count`
pub octets_behind : (count : ℕ) (frames : List (ArrayVec ℕ)) (octets : List (List ℕ))
    → map (λ frame. frame.items) frames ≡ octets
    → map (λ frame. frame.items) (slice_range frames count (length frames)) ≡ drop count octets
octets_behind count frames octets e =
    ap (map (λ (frame : ArrayVec ℕ). frame.items))
    (between_to_end frames count (length frames) (le_refl _))
    ∙ sym (drop-map (λ (frame : ArrayVec ℕ). frame.items) count frames) ∙ ap (drop count) e

-- ---- The first frame.

pub nothing_first : (from : Side) (line : Line) (frames : List Flight) → octets_on line ≡ []
    → IsOn from line frames → frames ≡ []
nothing_first from line [] e o = refl
nothing_first from line (frame ∷ rest) e o =
    let h : map (spelled_by from) (frame ∷ rest) ≡ [] = sym o.octets ∙ e in cc

pub none_first : (line : Line) (shown : List (ArrayVec ℕ)) (found : Option (Bor (ArrayVec ℕ)))
    (first : Option (Bor (List ℕ))) → map (λ frame. frame.items) shown ≡ octets_on line
    → (0 < length shown → IsSome found) → is_some first ≡ is_some found
    → IfNone first ((from : Side) (frames : List Flight) → IsOn from line frames → frames ≡ [])
none_first line shown found (Some octets) e h same = tt
none_first line [] found None e h same = λ from frames o. nothing_first from line frames (sym e) o
none_first line (frame ∷ shown) None None e h same =
    let no : IsSome {T = Bor (ArrayVec ℕ)} None = h (omega arith) in cc
none_first line (frame ∷ shown) (Some found) None e h same = cc

-- the octets of the first frame are read as that frame
pub first_is_read : (from : Side) (octets : List ℕ) (frame : Flight) (rest : List Flight)
    (read : Result Fields FrameFault)
    → ((f : Fields) → IsFrame f → octets ≡ spelling from f → read ≡ Ok f)
    → IsFirst from octets (frame ∷ rest)
    → read ≡ Ok (fields_of frame)
first_is_read from octets frame rest read only first = only (fields_of frame) first.1 first.0

-- after the first frame is removed, a search has passed one frame less
one_passed : (test : Flight → Bool) (frame : Flight) (rest : List Flight) (place first : ℕ)
    → place - first ≤ position_or_len test (frame ∷ rest)
    → place - (first + 1) ≤ position_or_len test rest
one_passed test frame rest place first h =
    let less = place_after test frame rest in omega (arith, h, less)

pub without_first : (from : Side) (old new : Line) (frame : Flight) (rest : List Flight)
    → octets_on new ≡ drop 1 (octets_on old) → polls_passed new ≡ old.poll_from - (old.first + 1)
    → finals_passed new ≡ old.final_from - (old.first + 1)
    → IsOn from old (frame ∷ rest) → IsOn from new rest
without_first from old new frame rest e polls finals o = record {
  octets = e ∙ ap (drop 1) o.octets;
  grammar = o.grammar.1;
  polls =
      at_most_as (polls_passed new) _ (position_or_len is_poll rest) polls
      (one_passed is_poll frame rest old.poll_from old.first o.polls);
  finals =
      at_most_as (finals_passed new) _ (position_or_len is_final rest) finals
      (one_passed is_final frame rest old.final_from old.first o.finals);
}

-- the octets on the line without the first frame
pub octets_after : (first : ℕ) (items : List (ArrayVec ℕ))
    → map (λ frame. frame.items) (drop (first + 1) items)
    ≡ drop 1 (map (λ frame. frame.items) (drop first items))
octets_after first items = rw (drop-map, drop-drop) refl

-- ---- One frame is lost.

frames_without : (frames : List Flight) (place : ℕ) → AreFrames frames
    → AreFrames (remove frames place)
frames_without [] zero g = tt
frames_without [] (suc n) g = tt
frames_without (frame ∷ frames) zero g = g.1
frames_without (frame ∷ frames) (suc n) g = (g.0, frames_without frames n g.1)

remove-map : {X Y : Type 0} (f : X → Y) (xs : List X) (place : ℕ)
    → remove (map f xs) place ≡ map f (remove xs place)
remove-map f [] zero = refl
remove-map f [] (suc n) = refl
remove-map f (x ∷ xs) zero = refl
remove-map f (x ∷ xs) (suc n) = ap (λ l. f x ∷ l) (remove-map f xs n)

remove-drop : {X : Type 0} (first place n : ℕ) (xs : List X) → n ≡ first + place
    → drop first (remove xs n) ≡ remove (drop first xs) place
remove-drop zero place n xs e = let same : n ≡ place = omega arith in rw same refl
remove-drop (suc first) place zero xs e = absurd (omega arith)
remove-drop (suc first) zero (suc n) [] e = refl
remove-drop (suc first) (suc place) (suc n) [] e = refl
remove-drop (suc first) place (suc n) (x ∷ xs) e = remove-drop first place n xs (omega arith)

take-remove : {X : Type 0} (n end : ℕ) (xs : List X) → n ≤ end
    → take end (remove xs n) ≡ remove (take (suc end) xs) n
take-remove zero zero [] h = refl
take-remove zero (suc end) [] h = refl
take-remove zero end (x ∷ xs) h = refl
take-remove (suc n) zero xs h = absurd (omega arith)
take-remove (suc n) (suc end) [] h = refl
take-remove (suc n) (suc end) (x ∷ xs) h = ap (λ l. x ∷ l) (take-remove n end xs (omega arith))

abbrev octets_of : List (ArrayVec ℕ) → List (List ℕ)
octets_of frames = map (λ frame. frame.items) frames

-- the octets on the line after the frames before the lost one moved back
pub octets_closed_up : (first place end : ℕ) (old new : List (ArrayVec ℕ)) → first + place < end
    → drop (first + 1) new ≡ remove (drop first old) place
    → octets_of (drop (first + 1) (take end new))
    ≡ remove (octets_of (drop first (take end old))) place
octets_closed_up first place end old new h e =
    let left = end - (first + 1) in
    let whole : suc left ≡ end - first = omega arith in
    ap octets_of
    (sym (between (first + 1) end new (omega arith)) ∙ ap (take left) e
    ∙ take-remove place left (drop first old) (omega arith)
    ∙ ap (λ n. remove (take n (drop first old)) place) whole
    ∙ ap (λ l. remove l place) (between first end old (omega arith)))
    ∙ sym (remove-map (λ (frame : ArrayVec ℕ). frame.items) (drop first (take end old)) place)

-- the octets on the line after the frames behind the lost one moved forward
pub octets_closed_down : (first place end : ℕ) (old new : List (ArrayVec ℕ))
    → take (end - 1) new ≡ remove (take end old) (first + place)
    → octets_of (drop first (take (end - 1) new))
    ≡ remove (octets_of (drop first (take end old))) place
octets_closed_down first place end old new e =
    ap (λ l. octets_of (drop first l)) e
    ∙ ap octets_of (remove-drop first place _ (take end old) refl)
    ∙ sym (remove-map (λ (frame : ArrayVec ℕ). frame.items) (drop first (take end old)) place)

pub without_one : (from : Side) (old new : Line) (place : ℕ) (frames : List Flight)
    → octets_on new ≡ remove (octets_on old) place
    → polls_passed new ≡ left_of place (polls_passed old)
    → finals_passed new ≡ left_of place (finals_passed old)
    → IsOn from old frames → IsOn from new (without_lost place frames)
without_one from old new place frames e polls finals o = record {
  octets = e ∙ ap (λ l. remove l place) o.octets ∙ remove-map (spelled_by from) frames place;
  grammar = frames_without frames place o.grammar;
  polls =
      at_most_as (polls_passed new) _ (position_or_len is_poll (without_lost place frames)) polls
      (place_without is_poll frames place (polls_passed old) o.polls);
  finals =
      at_most_as (finals_passed new) _ (position_or_len is_final (without_lost place frames)) finals
      (place_without is_final frames place (finals_passed old) o.finals);
}

-- ---- A frame moves to one end of a range.

-- the element at an index moves before those in front of it
pub moved_to_first : {X : Type 0} (first place count : ℕ) (xs some turned : List X)
    → first + place < length xs → count ≡ place + 1 → some ≡ take count (drop first xs)
    → turned ≡ drop (length some - 1) some ++ take (length some - 1) some
    → drop (first + 1) (put_mid first count xs turned) ≡ remove (drop first xs) place
moved_to_first first place count xs some turned within counts is e =
    let left = drop first xs in
    let long : length left ≡ length xs - first = length-drop first xs in
    let many : length some ≡ place + 1 =
    ap length is ∙ ap (λ n. length (take n left)) counts
    ∙ length-take-le (place + 1) left (omega (arith, long)) in
    let last : length some - 1 ≡ place = omega (arith, many) in
    let it = take 1 (drop place left) in
    let one : length it ≡ 1 =
    length-take-le 1 (drop place left) (omega (arith, long, length-drop place left)) in
    let behind : drop (length some - 1) some ≡ it =
    ap (λ n. drop n some) last ∙ ap (drop place) (is ∙ ap (λ n. take n left) counts)
    ∙ drop-take place 1 left in
    let before : take (length some - 1) some ≡ take place left =
    ap (λ n. take n some) last ∙ ap (take place) is
    ∙ take-take place count left (omega (arith, counts)) in
    let rest = drop count left in
    let turns : turned ++ rest ≡ it ++ (take place left ++ rest) =
    ap (λ l. l ++ rest)
    (e ∙ ap (λ l. l ++ take (length some - 1) some) behind ∙ ap (λ l. it ++ l) before)
    ∙ append_assoc it (take place left) rest in
    let counted : count ≡ suc place = omega (arith, counts) in
    sym (drop-drop 1 first (put_mid first count xs turned))
    ∙ ap (drop 1) (drop_at (take first xs) (turned ++ rest) first
    (length-take-le first xs (omega arith)) ∙ turns)
    ∙ drop_at it (take place left ++ rest) 1 one
    ∙ ap (λ n. take place left ++ drop n left) counted

-- the element at an index moves behind those up to the end
pub moved_to_last : {X : Type 0} (at end count : ℕ) (xs some turned : List X) → at < end
    → end ≤ length xs → count ≡ end - at → some ≡ take count (drop at xs)
    → turned ≡ drop 1 some ++ take 1 some
    → take (end - 1) (put_mid at count xs turned) ≡ remove (take end xs) at
moved_to_last at end count xs some turned before within counts is e =
    let left = drop at xs in
    let long : length left ≡ length xs - at = length-drop at xs in
    let many : length some ≡ end - at =
    ap length is ∙ ap (λ n. length (take n left)) counts
    ∙ length-take-le (end - at) left (omega (arith, long)) in
    let others = drop 1 some in
    let rest = take 1 some ++ drop count left in
    let turns : turned ++ drop count left ≡ others ++ rest =
    ap (λ l. l ++ drop count left) e
    ∙ append_assoc others (take 1 some) (drop count left) in
    let front : take at xs ++ (turned ++ drop count left) ≡ (take at xs ++ others) ++ rest =
    ap (λ l. take at xs ++ l) turns ∙ sym (append_assoc (take at xs) others rest) in
    let few : length (take at xs ++ others) ≡ end - 1 =
    omega (
      arith,
      length-append (take at xs) others,
      length-take-le at xs (omega arith),
      length-drop 1 some,
      many,
    ) in
    let next : at + 1 ≡ suc at = omega arith in
    let part : some ≡ drop at (take end xs) =
    is ∙ ap (λ n. take n left) counts ∙ between at end xs (omega arith) in
    let later : others ≡ drop (suc at) (take end xs) =
    ap (drop 1) part ∙ drop-drop 1 at (take end xs) ∙ ap (λ n. drop n (take end xs)) next in
    ap (take (end - 1)) front ∙ take_at (take at xs ++ others) rest (end - 1) few
    ∙ ap (λ l. take at xs ++ l) later
    ∙ ap (λ l. l ++ drop (suc at) (take end xs)) (sym (take-take at end xs (omega arith)))

-- ---- The first frame of a role with its P or F bit set.

marked_alike : (role : Role) (from : Side) (frames : List Flight) → AreFrames frames
    → position_or_len (λ octets. is_read_marked role (frame_at from octets))
    (map (spelled_by from) frames)
    ≡ position_or_len (λ frame. is_marked role (fields_of frame)) frames
marked_alike role from [] g = refl
marked_alike role from (frame ∷ frames) g =
    rw (frame_again from (fields_of frame) g.0.content, marked_alike role from frames g.1) refl

pub position_or_len-map : {X Y : Type 0} (f : X → Y) (test : Y → Bool) (xs : List X)
    → position_or_len test (map f xs) ≡ position_or_len (λ x. test (f x)) xs
position_or_len-map f test [] = refl
position_or_len-map f test (x ∷ xs) = rw (position_or_len-map f test xs) refl

-- the index that a search returns, or the number of all elements
where_found : (found : Bool) (place count : ℕ) → nat_lt place count ≡ found → place ≤ count
    → unwrap_or (if found then Some place else None) count ≡ place
where_found true place count is h = refl
where_found false place count is h =
    let all : count ≤ place = grind (arith, nat_tests) in omega (arith, all, h)

pub place_or_all : (place count : ℕ) → place ≤ count
    → unwrap_or (if nat_lt place count then Some place else None) count ≡ place
place_or_all place count h = where_found (nat_lt place count) place count refl h

pub place_within : {X : Type 0} (test : X → Bool) (xs : List X)
    → position_or_len test xs ≤ length xs
place_within test [] = omega arith
place_within test (x ∷ xs) =
    let less = place_within test xs in
    let most = all_behind (not (test x)) (position_or_len test xs) in omega (arith, less, most)

no_more : (m n k : ℕ) → m ≤ n → k ≡ n → m ≤ k
no_more m n k h same = omega (arith, h, same)

-- the index found is at most the number of frames
pub place_in_rest : (role : Role) (from : Side) (passed : ℕ) (frames : List (ArrayVec ℕ))
    → passed ≤ length frames
    → passed + place_of_marked role from (octets_of (slice_range frames passed (length frames)))
    ≤ length frames
place_in_rest role from passed frames h =
    let rest = slice_range frames passed (length frames) in
    let long : length rest ≡ length frames - passed =
    ap length (between_to_end frames passed (length frames) (le_refl _))
    ∙ length-drop passed frames in
    let most =
    place_within (λ octets. is_read_marked role (frame_at from octets)) (octets_of rest) in
    let many : length (octets_of rest) ≡ length rest =
    length-map rest (λ (frame : ArrayVec ℕ). frame.items) in
    omega (arith, h, long, most, many)

-- the first marked frame after those that a search has passed is the first of all
pub first_marked_is : (role : Role) (from : Side) (line : Line) (frames : List Flight) (passed : ℕ)
    → IsOn from line frames
    → passed ≤ position_or_len (λ frame. is_marked role (fields_of frame)) frames
    → passed + place_of_marked role from (drop passed (octets_on line))
    ≡ position_or_len (λ frame. is_marked role (fields_of frame)) frames
first_marked_is role from line frames passed o h =
    let same : place_of_marked role from (octets_on line) ≡ position_or_len
    (λ frame. is_marked role (fields_of frame)) frames =
    ap (place_of_marked role from) o.octets ∙ marked_alike role from frames o.grammar in
    let few : passed ≤ place_of_marked role from (octets_on line) = no_more passed _ _ h same in
    place_behind (λ octets. is_read_marked role (frame_at from octets)) passed (octets_on line) few
    ∙ same

found_so : (test : Flight → Bool) (frames : List Flight) (place count : ℕ)
    → place ≡ position_or_len test frames → count ≡ length frames
    → (if nat_lt place count then Some place else None) ≡ position test frames
found_so test frames place count is long = rw (is, long) refl

-- the index found, if a frame is in transit at it
pub place_found : (test : Flight → Bool) (from : Side) (line : Line) (frames : List Flight)
    (place : ℕ) → IsOn from line frames → place ≡ position_or_len test frames
    → (if nat_lt place (length (octets_on line)) then Some place else None) ≡ position test frames
place_found test from line frames place o is =
    found_so test frames place (length (octets_on line)) is
    (ap length o.octets ∙ length-map frames (spelled_by from))
