-- Lists whose items are written over in their places.
use Rattle.std.proofs.Common.{◌≡◌, ◌<◌, ◌≤◌, ◌+◌, ◌-◌, ℕ, List, [], ◌∷◌, ◌++◌, length, map, set, take, drop, inl, inr, refl, sym, ap, subst, ◌∙◌, arith}
use Rattle.std.specs.List.{All}
use Rattle.std.proofs.lemmas.List.{set_at, take_more_set, map-append, length-take-le, length-map, length-drop, drop-append-le, drop-drop, drop-map, drop-take, take_all, take_at, take-append-le, drop_all}
use Rattle.std.proofs.lemmas.List.Elements.{All-push, All-drop}
use Rattle.arrayvec.specs.ArrayVec.{ArrayVec}
use Rattle.lapd_sides_links.specs.declared.primitive.Primitive.{Primitive}
use Rattle.lapd_sides_links.specs.Effects.{Effects, HasLeastOctets}
use Rattle.lapd_sides_links.specs.WrittenOver.{HasFirstRemoved, in_use}

abbrev pub octets_of : List (ArrayVec ℕ) → List (List ℕ)
octets_of frames = map (λ (f : ArrayVec ℕ). f.items) frames

abbrev pub AllLeast : List (ArrayVec ℕ) → Type 0
AllLeast frames = All (λ (f : ArrayVec ℕ). HasLeastOctets f.items) frames

abbrev these : List (List ℕ) → List Primitive → Effects
these frames primitives = record { frames = frames; primitives = primitives }

-- ---- How many are in use, and which.

pub count_in_use : {X : Type 0} (items : List X) (first end : ℕ) → end ≤ length items
    → length (in_use first end items) ≡ end - first
count_in_use items first end within =
    length-drop first (take end items) ∙ ap (λ (n : ℕ). n - first) (length-take-le end items within)

pub frames_in_use : (frames : List (ArrayVec ℕ)) (first end : ℕ) → end ≤ length frames
    → length (octets_of (in_use first end frames)) ≡ end - first
frames_in_use frames first end within =
    length-map (in_use first end frames) (λ (f : ArrayVec ℕ). f.items)
    ∙ count_in_use frames first end within

-- a free place is left
pub free_frame : (frames : List (ArrayVec ℕ)) (first end most capacity : ℕ) → end ≤ length frames
    → length (octets_of (in_use first end frames)) < most → most ≤ capacity → end - first < capacity
free_frame frames first end most capacity within room fits =
    omega (arith, frames_in_use frames first end within)

pub free_primitive : (primitives : List Primitive) (first end most capacity : ℕ)
    → end ≤ length primitives → length (in_use first end primitives) < most → most ≤ capacity
    → end - first < capacity
free_primitive primitives first end most capacity within room fits =
    omega (arith, count_in_use primitives first end within)

-- the first is in use
pub has_frame : (frames : List (ArrayVec ℕ)) (first end : ℕ) → end ≤ length frames
    → 0 < length (octets_of (in_use first end frames)) → first < end
has_frame frames first end within some = omega (arith, frames_in_use frames first end within)

pub has_primitive : (primitives : List Primitive) (first end : ℕ) → end ≤ length primitives
    → 0 < length (in_use first end primitives) → first < end
has_primitive primitives first end within some =
    omega (arith, count_in_use primitives first end within)

pub slice_in_use : {X : Type 0} (items : List X) (first end : ℕ) → first ≤ end
    → take (end - first) (drop first items) ≡ in_use first end items
slice_in_use items first end h =
    let whole : first + (end - first) ≡ end = omega arith in
    sym (drop-take first (end - first) items) ∙ ap (λ (n : ℕ). drop first (take n items)) whole

-- ---- One more is written.

pub one_more : {X : Type 0} (items : List X) (first end : ℕ) (item : X) → first ≤ end
    → end < length items
    → in_use first (end + 1) (set items end item) ≡ in_use first end items ++ item ∷ []
one_more items first end item h within =
    let taken : first ≤ length (take end items) =
    subst (λ (n : ℕ). first ≤ n) (sym (length-take-le end items (omega arith))) h in
    ap (drop first) (take_more_set items end item within)
    ∙ drop-append-le first (take end items) (item ∷ []) taken

-- the item behind those that were moved to other places
pub written_behind : {X : Type 0} (old new : List X) (first end moved place stop : ℕ) (item : X)
    → moved ≤ place → place < length new → stop ≡ place + 1
    → in_use moved place new ≡ in_use first end old
    → in_use moved stop (set new place item) ≡ in_use first end old ++ item ∷ []
written_behind old new first end moved place stop item h within is_end same =
    ap (λ (n : ℕ). in_use moved n (set new place item)) is_end
    ∙ (one_more new moved place item h within ∙ ap (λ l. l ++ item ∷ []) same)

pub frame_behind : (old new : List (ArrayVec ℕ)) (first end moved place stop : ℕ)
    (written : ArrayVec ℕ) (octets : List ℕ) (primitives : List Primitive)
    → moved ≤ place → place < length new → stop ≡ place + 1
    → in_use moved place new ≡ in_use first end old → written.items ≡ octets
    → these (octets_of (in_use moved stop (set new place written))) primitives
    ≡ these (octets_of (in_use first end old) ++ octets ∷ []) primitives
frame_behind old new first end moved place stop written octets primitives h within is_end same is =
    ap (λ (l : List (List ℕ)). these l primitives)
    (ap octets_of (written_behind old new first end moved place stop written h within is_end same)
    ∙ (map-append (λ (f : ArrayVec ℕ). f.items) (in_use first end old) (written ∷ [])
    ∙ ap (λ (o : List ℕ). octets_of (in_use first end old) ++ o ∷ []) is))

pub primitive_behind : (old new : List Primitive) (first end moved place stop : ℕ)
    (written primitive : Primitive) (frames : List (List ℕ))
    → moved ≤ place → place < length new → stop ≡ place + 1
    → in_use moved place new ≡ in_use first end old → written ≡ primitive
    → these frames (in_use moved stop (set new place written))
    ≡ these frames (in_use first end old ++ primitive ∷ [])
primitive_behind old new first end moved place stop written primitive frames h within is_end same
    is =
    ap (these frames)
    (written_behind old new first end moved place stop written h within is_end same
    ∙ ap (λ (p : Primitive). in_use first end old ++ p ∷ []) is)

pub least_behind : (old new : List (ArrayVec ℕ)) (first end moved place stop : ℕ)
    (written : ArrayVec ℕ)
    → moved ≤ place → place < length new → stop ≡ place + 1
    → in_use moved place new ≡ in_use first end old
    → HasLeastOctets written.items → AllLeast (in_use first end old)
    → AllLeast (in_use moved stop (set new place written))
least_behind old new first end moved place stop written h within is_end same least all =
    subst AllLeast
    (sym (written_behind old new first end moved place stop written h within is_end same))
    (All-push (λ (f : ArrayVec ℕ). HasLeastOctets f.items) (in_use first end old) written all least)

-- ---- The first is removed.

first_left : {X : Type 0} (items : List X) (first end : ℕ)
    → in_use (first + 1) end items ≡ drop 1 (in_use first end items)
first_left items first end = sym (drop-drop 1 first (take end items))

-- the places in use are in order, and within the items
pub left_begins : (first end left stop : ℕ) → first < end → HasFirstRemoved first end left stop
    → left ≤ stop
left_begins first end left stop some (inl moved) = omega (arith, moved.0, moved.1)
left_begins first end left stop some (inr only) = omega (arith, only.1, only.2)

pub left_ends : (first end left stop count : ℕ) → end ≤ count → HasFirstRemoved first end left stop
    → stop ≤ count
left_ends first end left stop count within (inl moved) = omega (arith, moved.1)
left_ends first end left stop count within (inr only) = omega (arith, only.2)

no_places : {X : Type 0} (items : List X) → in_use 0 0 items ≡ []
no_places [] = refl
no_places (item ∷ items) = refl

-- the others are in use
left_in_use : {X : Type 0} (items : List X) (first end left stop : ℕ) → end ≤ length items
    → HasFirstRemoved first end left stop → in_use left stop items ≡ drop 1 (in_use first end items)
left_in_use items first end left stop within (inl moved) =
    ap (λ (n : ℕ). in_use n stop items) moved.0
    ∙ (ap (λ (n : ℕ). in_use (first + 1) n items) moved.1 ∙ first_left items first end)
left_in_use items first end left stop within (inr only) =
    let none : length (take end items) ≤ first + 1 =
    omega (arith, length-take-le end items within, only.0) in
    ap (λ (n : ℕ). in_use n stop items) only.1
    ∙ (ap (λ (n : ℕ). in_use 0 n items) only.2 ∙ (no_places items
    ∙ sym (sym (first_left items first end) ∙ drop_all (first + 1) (take end items) none)))

pub frame_left : (frames : List (ArrayVec ℕ)) (first end left stop : ℕ)
    (primitives : List Primitive) → end ≤ length frames → HasFirstRemoved first end left stop
    → these (octets_of (in_use left stop frames)) primitives
    ≡ these (drop 1 (octets_of (in_use first end frames))) primitives
frame_left frames first end left stop primitives within removed =
    ap (λ (l : List (List ℕ)). these l primitives)
    (ap octets_of (left_in_use frames first end left stop within removed)
    ∙ sym (drop-map (λ (f : ArrayVec ℕ). f.items) 1 (in_use first end frames)))

pub primitive_left : (primitives : List Primitive) (first end left stop : ℕ)
    (frames : List (List ℕ)) → end ≤ length primitives → HasFirstRemoved first end left stop
    → these frames (in_use left stop primitives)
    ≡ these frames (drop 1 (in_use first end primitives))
primitive_left primitives first end left stop frames within removed =
    ap (these frames) (left_in_use primitives first end left stop within removed)

pub least_left : (frames : List (ArrayVec ℕ)) (first end left stop : ℕ) → end ≤ length frames
    → HasFirstRemoved first end left stop
    → AllLeast (in_use first end frames) → AllLeast (in_use left stop frames)
least_left frames first end left stop within removed all =
    subst AllLeast (sym (left_in_use frames first end left stop within removed))
    (All-drop (λ (f : ArrayVec ℕ). HasLeastOctets f.items) 1 (in_use first end frames) all)

-- ---- More places.

-- ---- An item that is written at the end of a list.

pub frame_pushed : (frames pushed : List (ArrayVec ℕ)) (place : ℕ) (made written frame : ArrayVec ℕ)
    (octets : List ℕ) → length frames ≡ place → pushed ≡ frames ++ made ∷ []
    → written.items ≡ octets → octets ≡ frame.items
    → set pushed place written ≡ frames ++ frame ∷ []
frame_pushed frames pushed place made written frame octets size push is same =
    let copied : written ≡ frame =
    ap (λ (o : List ℕ). let f : ArrayVec ℕ = record { items = o } in f) (is ∙ same) in
    ap (λ (l : List (ArrayVec ℕ)). set l place written) push
    ∙ (set_at frames made [] written place size ∙ ap (λ (f : ArrayVec ℕ). frames ++ f ∷ []) copied)

pub primitive_pushed : (primitives pushed : List Primitive) (place : ℕ)
    (made written primitive : Primitive) → length primitives ≡ place
    → pushed ≡ primitives ++ made ∷ []
    → written ≡ primitive → set pushed place written ≡ primitives ++ primitive ∷ []
primitive_pushed primitives pushed place made written primitive size push is =
    ap (λ (l : List Primitive). set l place written) push
    ∙ (set_at primitives made [] written place size
    ∙ ap (λ (p : Primitive). primitives ++ p ∷ []) is)
