-- The octets of a link on a line: at its end, at its front, and when octets are lost; and the
-- frames that poll or answer a poll.
use Rattle.std.proofs.Common.{◌≡◌, ◌⊎◌, inl, inr, ℕ, zero, suc, ◌<◌, ◌&&◌, nat_lt, if◌then◌else◌, List, [], ◌∷◌, length, map, Bool, true, false, Some, None, Result, Ok, refl, sym, ap, subst, ◌∙◌, arith}
use Rattle.std.specs.Prelude.{◌||◌}
use Rattle.std.specs.List.{filter, list_any, position, position_or_len, remove}
use Rattle.std.proofs.lemmas.Bool.Decides.{nat_tests}
use Rattle.lapd_frame.specs.declared.Side.{Side}
use Rattle.lapd_frame.specs.declared.frame_fault.FrameFault.{FrameFault}
use Rattle.lapd_frame.specs.Frame.{Fields}
use Rattle.lapd_frame.specs.Reading.{frame_at}
use Rattle.lapd_frame.proofs.FrameAt.{frame_again}
use Rattle.lapd_pair_laws.specs.Consistent.{AreProper}
use Rattle.lapd_pair_laws.specs.Line.{Flight, is_poll, is_final, first_poll, first_final}
use Rattle.lapd_table.specs.declared.link_id.LinkId.{LinkId}
use Rattle.lapd_two_side_laws.specs.Addressed.{is_for, those_for, reads_as_poll, reads_as_final, is_poll_for, is_final_for, parts_of, spelled, all_spelled}

-- ---- One element is lost.

-- removing an element that passes the test removes one of those that pass
pub record IsLost {X : Type 0} (p : X → Bool) (xs : List X) (at : ℕ) : Type 0 where
  pub place : ℕ
  pub within : place < length (filter p xs)
  pub left : filter p (remove xs at) ≡ remove (filter p xs) place

abbrev Lost : {X : Type 0} → (X → Bool) → List X → ℕ → Type 0
Lost p xs at = (filter p (remove xs at) ≡ filter p xs) ⊎ IsLost p xs at

lost_here : {X : Type 0} (p : X → Bool) (x : X) (xs : List X) (test : Bool) → p x ≡ test
    → Lost p (x ∷ xs) zero
lost_here p x xs true is =
    inr (record { place = 0; within = rw is (omega arith); left = rw is refl })
lost_here p x xs false is = inl (rw is refl)

lost_behind : {X : Type 0} (p : X → Bool) (x : X) (xs : List X) (at : ℕ) (test : Bool) → p x ≡ test
    → Lost p xs at → Lost p (x ∷ xs) (suc at)
lost_behind p x xs at true is (inl same) = inl (rw is (ap (λ l. x ∷ l) same))
lost_behind p x xs at true is (inr h) =
    inr (record {
      place = suc h.place;
      within = rw is (omega (arith, h.within));
      left = rw is (ap (λ l. x ∷ l) h.left);
    })
lost_behind p x xs at false is (inl same) = inl (rw is same)
lost_behind p x xs at false is (inr h) =
    inr (record { place = h.place; within = rw is h.within; left = rw is h.left })

pub where_lost : {X : Type 0} (p : X → Bool) (xs : List X) (at : ℕ) → Lost p xs at
where_lost p [] zero = inl refl
where_lost p [] (suc at) = inl refl
where_lost p (x ∷ xs) zero = lost_here p x xs (p x) refl
where_lost p (x ∷ xs) (suc at) = lost_behind p x xs at (p x) refl (where_lost p xs at)

pub removed_spelled : {X Y : Type 0} (f : X → Y) (xs : List X) (place : ℕ)
    → remove (map f xs) place ≡ map f (remove xs place)
removed_spelled f [] zero = refl
removed_spelled f [] (suc n) = refl
removed_spelled f (x ∷ xs) zero = refl
removed_spelled f (x ∷ xs) (suc n) = ap (λ l. f x ∷ l) (removed_spelled f xs n)

-- ---- The first element.

pub record IsFirst (from : Side) (id : LinkId) (octets : List ℕ) (rest : List (List ℕ))
    (frames : List Flight) : Type 0 where
  pub frame : Flight
  pub behind : List Flight
  pub are : frames ≡ frame ∷ behind
  pub head : octets ≡ spelled from id frame
  pub tail : rest ≡ all_spelled from id behind

heads : {X : Type 0} (x y : X) (xs ys : List X) → x ∷ xs ≡ y ∷ ys → (x ≡ y) × (xs ≡ ys)
heads x y xs ys h = (cc, cc)

pub first_of : (from : Side) (id : LinkId) (octets : List ℕ) (rest : List (List ℕ))
    (frames : List Flight) → octets ∷ rest ≡ all_spelled from id frames
    → IsFirst from id octets rest frames
first_of from id octets rest [] h = cc
first_of from id octets rest (frame ∷ frames) h =
    let two = heads octets (spelled from id frame) rest (all_spelled from id frames) h in
    record { frame = frame; behind = frames; are = refl; head = two.0; tail = two.1 }

-- ---- Frames that poll or answer a poll.

-- among the elements that pass one test, those that pass another pass both
pub any_among : {X : Type 0} (p q : X → Bool) (xs : List X)
    → list_any q (filter p xs) ≡ list_any (λ x. p x && q x) xs
any_among p q [] = refl
any_among p q (x ∷ xs) = by_test p q x xs (p x) refl (any_among p q xs)
  where
    by_test : {X : Type 0} (p q : X → Bool) (x : X) (xs : List X) (test : Bool) → p x ≡ test
        → list_any q (filter p xs) ≡ list_any (λ y. p y && q y) xs
        → list_any q (filter p (x ∷ xs)) ≡ list_any (λ y. p y && q y) (x ∷ xs)
    by_test p q x xs true is h = rw is (ap (λ b. q x || b) h)
    by_test p q x xs false is h = rw is h

pub any_read : (from : Side) (id : LinkId) (test : Result Fields FrameFault → Bool)
    (of_frame : Flight → Bool) → ((frame : Flight) → test (Ok (parts_of id frame)) ≡ of_frame frame)
    → (frames : List Flight) → AreProper frames
    → list_any (λ octets. test (frame_at from octets)) (all_spelled from id frames)
    ≡ list_any of_frame frames
any_read from id test of_frame same [] proper = refl
any_read from id test of_frame same (frame ∷ frames) proper =
    rw (
      frame_again from (parts_of id frame) proper.0,
      same frame,
      any_read from id test of_frame same frames proper.1,
    ) refl

none_or_len : {X : Type 0} (p : X → Bool) (xs : List X) → list_any p xs ≡ false
    → position_or_len p xs ≡ length xs
none_or_len p [] h = refl
none_or_len p (x ∷ xs) h = by_test p x xs (p x) refl h (none_or_len p xs)
  where
    by_test : {X : Type 0} (p : X → Bool) (x : X) (xs : List X) (test : Bool) → p x ≡ test
        → (p x || list_any p xs) ≡ false
        → (list_any p xs ≡ false → position_or_len p xs ≡ length xs)
        → position_or_len p (x ∷ xs) ≡ length (x ∷ xs)
    by_test p x xs true is h rest =
        let no : true ≡ false = subst (λ b. (b || list_any p xs) ≡ false) is h in cc
    by_test p x xs false is h rest =
        let none : list_any p xs ≡ false = subst (λ b. (b || list_any p xs) ≡ false) is h in
        rw (is, rest none) (omega arith)

none_below : (n m : ℕ) → n ≡ m → (if nat_lt n m then Some n else None) ≡ None
none_below n m same = let no : nat_lt n m ≡ false = grind (arith, nat_tests) in rw no refl

no_position : {X : Type 0} (p : X → Bool) (xs : List X) → list_any p xs ≡ false
    → position p xs ≡ None
no_position p xs h = none_below (position_or_len p xs) (length xs) (none_or_len p xs h)

pub no_poll : (from : Side) (id : LinkId) (line : List (List ℕ)) (frames : List Flight)
    → AreProper frames → those_for from id line ≡ all_spelled from id frames
    → list_any (is_poll_for from id) line ≡ false → first_poll frames ≡ None
no_poll from id line frames proper on none =
    no_position is_poll frames (sym
    (any_read from id reads_as_poll is_poll (λ frame. refl) frames proper)
    ∙ ap (list_any (λ octets. reads_as_poll (frame_at from octets))) (sym on)
    ∙ any_among (is_for from id) (λ octets. reads_as_poll (frame_at from octets)) line
    ∙ none)

pub no_final : (from : Side) (id : LinkId) (line : List (List ℕ)) (frames : List Flight)
    → AreProper frames → those_for from id line ≡ all_spelled from id frames
    → list_any (is_final_for from id) line ≡ false → first_final frames ≡ None
no_final from id line frames proper on none =
    no_position is_final frames (sym
    (any_read from id reads_as_final is_final (λ frame. refl) frames proper)
    ∙ ap (list_any (λ octets. reads_as_final (frame_at from octets))) (sym on)
    ∙ any_among (is_for from id) (λ octets. reads_as_final (frame_at from octets)) line
    ∙ none)
