-- Results that are appended to a backlog whose first items are removed.
use Rattle.std.proofs.Common.{◌≡◌, ◌≤◌, ◌+◌, ℕ, List, ◌++◌, length, map, drop, Result, Ok, Err, OnOk, sym, ap, subst, ◌∙◌}
use Rattle.std.proofs.lemmas.List.{drop-map, drop-drop, drop-append-le, length-map}
use Rattle.arrayvec.specs.ArrayVec.{ArrayVec}
use Rattle.lapd_sides_links.specs.declared.primitive.Primitive.{Primitive}
use Rattle.lapd_sides_links.specs.Effects.{Effects}

abbrev octets_of : List (ArrayVec ℕ) → List (List ℕ)
octets_of frames = map (λ (f : ArrayVec ℕ). f.items) frames

abbrev these : List (List ℕ) → List Primitive → Effects
these frames primitives = record { frames = frames; primitives = primitives }

frames_wait : (removed : ℕ) (old new : List (ArrayVec ℕ)) (given : List (List ℕ))
    → removed ≤ length old
    → octets_of new ≡ octets_of old ++ given
    → octets_of (drop removed new) ≡ octets_of (drop removed old) ++ given
frames_wait removed old new given within e =
    sym (drop-map (λ (f : ArrayVec ℕ). f.items) removed new) ∙ (ap (drop removed) e
    ∙ (drop-append-le removed (octets_of old) given
    (subst (λ (n : ℕ). removed ≤ n) (sym (length-map old (λ (f : ArrayVec ℕ). f.items)))
    within)
    ∙ ap (λ (l : List (List ℕ)). l ++ given) (drop-map (λ (f : ArrayVec ℕ). f.items) removed old)))

-- the results wait behind the earlier ones
pub wait_behind : (removed gone : ℕ) (old new : List (ArrayVec ℕ)) (earlier later : List Primitive)
    (given : Effects) → removed ≤ length old → gone ≤ length earlier
    → octets_of new ≡ octets_of old ++ given.frames → later ≡ earlier ++ given.primitives
    → these (octets_of (drop removed new)) (drop gone later)
    ≡ these (octets_of (drop removed old) ++ given.frames)
    (drop gone earlier ++ given.primitives)
wait_behind removed gone old new earlier later given within inside frames primitives =
    ap (λ (l : List (List ℕ)). these l (drop gone later))
    (frames_wait removed old new given.frames within frames)
    ∙ ap (λ (l : List Primitive). these (octets_of (drop removed old) ++ given.frames) l)
    (ap (drop gone) primitives ∙ drop-append-le gone earlier given.primitives inside)

pub both_on_ok : {A E : Type 0} (result : Result A E) (P Q R : Type 0) → (P → Q → R) → OnOk result P
    → OnOk result Q → OnOk result R
both_on_ok (Ok a) P Q R f p q = f p q
both_on_ok (Err e) P Q R f p q = tt

-- the first one is removed
pub frame_removed : (removed : ℕ) (frames : List (ArrayVec ℕ)) (primitives : List Primitive)
    → these (octets_of (drop (removed + 1) frames)) primitives
    ≡ these (drop 1 (octets_of (drop removed frames))) primitives
frame_removed removed frames primitives =
    ap (λ (l : List (List ℕ)). these l primitives)
    (sym (drop-map (λ (f : ArrayVec ℕ). f.items) 1 (drop removed frames)
    ∙ ap octets_of (drop-drop 1 removed frames)))

pub primitive_removed : (gone : ℕ) (primitives : List Primitive) (frames : List (List ℕ))
    → these frames (drop (gone + 1) primitives) ≡ these frames (drop 1 (drop gone primitives))
primitive_removed gone primitives frames = ap (these frames) (sym (drop-drop 1 gone primitives))
