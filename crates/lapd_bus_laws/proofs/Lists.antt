-- Lists of terminals and of octets in transit.
use Rattle.std.proofs.Common.{◌≡◌, ◌⊎◌, inl, inr, ℕ, ◌==◌, zero, suc, Bool, true, false, List, [], ◌∷◌, map, set, drop, if◌then◌else◌, Option, Some, None, refl, sym, ap, subst, ◌∙◌}
use Rattle.std.specs.Prelude.{slice_get, filter, ◌||◌}
use Rattle.std.specs.List.{remove, list_any, filter_map, cons_option}
use Rattle.lapd_tei.proofs.PreservedByBus.{get_after_set}
use Rattle.lapd_side_events.proofs.Indices.{equal_index, apart_index}
use Rattle.lapd_two_side_laws.proofs.Managed.{neither}

-- ---- Elements by index.

pub map_back : {X Y : Type 0} (f : X → Y) (xs : List X) (j : ℕ) (y : Y) → slice_get (map f xs) j
    ≡ Some y → (x : X) × (slice_get xs j ≡ Some x) × (f x ≡ y)
map_back f [] j y q = cc
map_back f (x ∷ xs) zero y q = (x, refl, cc)
map_back f (x ∷ xs) (suc j) y q = map_back f xs j y q

-- each element has this property, or each but the one at an index
abbrev pub Each : {X : Type 0} → (X → Type 0) → List X → Type 0
Each {X} P xs = (k : ℕ) (x : X) → slice_get xs k ≡ Some x → P x

abbrev pub Others : {X : Type 0} → (X → Type 0) → ℕ → List X → Type 0
Others {X} P i xs = (k : ℕ) (x : X) → slice_get xs k ≡ Some x → (k ≡ i → ⊥) → P x

pub others_set : {X : Type 0} (P : X → Type 0) (i : ℕ) (xs : List X) (j : ℕ) (y : X) → Others P i xs
    → ((j ≡ i → ⊥) → P y) → Others P i (set xs j y)
others_set P i xs j y h new = λ k x there apart. elim (get_after_set xs j k y x there) [
  | inl e ↦ subst P e.1 (new (λ same. apart (e.0 ∙ same)))
  | inr before ↦ h k x before apart
]

pub others_map : {X Y : Type 0} (P : X → Type 0) (Q : Y → Type 0) (f : X → Y) (i : ℕ) (xs : List X)
    → ((x : X) → P x → Q (f x)) → Others P i xs → Others Q i (map f xs)
others_map P Q f i xs keeps h =
    λ k y there apart.
    (let m = map_back f xs k y there in subst Q m.2 (keeps m.0 (h k m.0 m.1 apart)))

pub each_set : {X : Type 0} (P : X → Type 0) (xs : List X) (j : ℕ) (y : X) → Each P xs → P y
    → Each P (set xs j y)
each_set P xs j y h new = λ k x there. elim (get_after_set xs j k y x there) [
  | inl e ↦ subst P e.1 new
  | inr before ↦ h k x before
]

pub each_map : {X Y : Type 0} (P : X → Type 0) (Q : Y → Type 0) (f : X → Y) (xs : List X)
    → ((x : X) → P x → Q (f x)) → Each P xs → Each Q (map f xs)
each_map P Q f xs keeps h =
    λ k y there. (let m = map_back f xs k y there in subst Q m.2 (keeps m.0 (h k m.0 m.1)))

-- ---- Tests that no element passes.

module _ {X : Type 0} (P : X → Bool) where
  pub any_at : (xs : List X) (k : ℕ) (x : X) → list_any P xs ≡ false → slice_get xs k ≡ Some x → P x
      ≡ false
  any_at [] k x none there = cc
  any_at (y ∷ ys) zero x none there = (let e : y ≡ x = cc in
      subst (λ z. P z ≡ false) e (neither (P y) (list_any P ys) none).0)
  any_at (y ∷ ys) (suc k) x none there = any_at ys k x (neither (P y) (list_any P ys) none).1 there

  -- no other element than the one at an index
  pub any_other : (xs : List X) (i k : ℕ) (x : X) → list_any P (remove xs i) ≡ false
      → slice_get xs k ≡ Some x → (k ≡ i → ⊥) → P x ≡ false
  any_other [] i k x none there apart = cc
  any_other (y ∷ ys) zero zero x none there apart = absurd (apart refl)
  any_other (y ∷ ys) zero (suc k) x none there apart = any_at ys k x none there
  any_other (y ∷ ys) (suc i) zero x none there apart = (let e : y ≡ x = cc in
      subst (λ z. P z ≡ false) e (neither (P y) (list_any P (remove ys i)) none).0)
  any_other (y ∷ ys) (suc i) (suc k) x none there apart =
      any_other ys i k x (neither (P y) (list_any P (remove ys i)) none).1 there
      (λ same. apart (ap suc same))

  pub none_first : (x : X) (xs : List X) → filter P (x ∷ xs) ≡ [] → (P x ≡ false)
      × (filter P xs ≡ [])
  none_first x xs is = by (P x) refl is
    where
      by : (test : Bool) → P x ≡ test → (if test then x ∷ filter P xs else filter P xs) ≡ []
          → (P x ≡ false) × (filter P xs ≡ [])
      by true e is = cc
      by false e is = (e, is)

  pub none_dropped : (xs : List X) → filter P xs ≡ [] → filter P (drop 1 xs) ≡ []
  none_dropped [] is = is
  none_dropped (x ∷ xs) is = (none_first x xs is).1

  pub none_removed : (xs : List X) (at : ℕ) → filter P xs ≡ [] → filter P (remove xs at) ≡ []
  none_removed [] zero is = is
  none_removed [] (suc at) is = is
  none_removed (x ∷ xs) zero is = (none_first x xs is).1
  none_removed (x ∷ xs) (suc at) is = let first = none_first x xs is in
      ap (λ (b : Bool).
      if b then x ∷ filter P (remove xs at) else filter P (remove xs at)) first.0
      ∙ none_removed xs at first.1

-- ---- Elements that are unique.

-- at most one element has this property
abbrev pub Unique : {X : Type 0} → (X → Type 0) → List X → Type 0
Unique {X} P xs = (i j : ℕ) (x y : X) → slice_get xs i ≡ Some x → slice_get xs j ≡ Some y → P x
    → P y → i ≡ j

-- an element is replaced by one that has the property only if the old one had it, or no other has
-- it
pub unique_set : {X : Type 0} (P : X → Type 0) (xs : List X) (k : ℕ) (old new : X) → slice_get xs k
    ≡ Some old → Unique P xs → (P new → P old ⊎ Others (λ x.
    P x → ⊥) k xs) → Unique P (set xs k new)
unique_set {X} P xs k old new at h may = λ i j x y hi hj px py.
    elim (get_after_set xs k i new x hi) [
      | inl ei ↦ elim (get_after_set xs k j new y hj) [
        | inl ej ↦ ei.0 ∙ sym ej.0
        | inr bj ↦ ei.0 ∙ sym (alone j y bj py (may (subst P (sym ei.1) px)))
      ]
      | inr bi ↦ elim (get_after_set xs k j new y hj) [
        | inl ej ↦ alone i x bi px (may (subst P (sym ej.1) py)) ∙ sym ej.0
        | inr bj ↦ h i j x y bi bj px py
      ]
    ]
  where
    alone : (j : ℕ) (y : X) → slice_get xs j ≡ Some y → P y → P old
        ⊎ Others (λ x. P x → ⊥) k xs → j ≡ k
    alone j y bj py (inl po) = h j k y old bj at py po
    alone j y bj py (inr none) = by_test (j == k) refl
      where
        by_test : (test : Bool) → (j == k) ≡ test → j ≡ k
        by_test true is = equal_index j k is
        by_test false is = absurd (none j y bj (apart_index j k is) py)

pub unique_map : {X Y : Type 0} (P : X → Type 0) (Q : Y → Type 0) (f : X → Y) (xs : List X)
    → Each (λ x. Q (f x) → P x) xs → Unique P xs → Unique Q (map f xs)
unique_map P Q f xs back h = λ i j x y hi hj qx qy.
    (let m = map_back f xs i x hi in let n = map_back f xs j y hj in
    h i j m.0 n.0 m.1 n.1 (back i m.0 m.1 (subst Q (sym m.2) qx))
    (back j n.0 n.1 (subst Q (sym n.2) qy)))

-- ---- Tests of some elements.

pub either_some : (a b : Bool) → (a || b) ≡ true → (a ≡ true) ⊎ (b ≡ true)
either_some true b h = inl refl
either_some false b h = inr h

pub some_first : (a b : Bool) → a ≡ true → (a || b) ≡ true
some_first true b h = refl
some_first false b h = cc

pub some_second : (a b : Bool) → b ≡ true → (a || b) ≡ true
some_second true b h = refl
some_second false b h = h

pub not_both : (a : Bool) → a ≡ true → a ≡ false → ⊥
not_both true h none = cc
not_both false h none = cc

pub false_by : (a : Bool) → (a ≡ true → ⊥) → a ≡ false
false_by true h = absurd (h refl)
false_by false h = refl

-- a weaker test
pub any_weaker : {X : Type 0} (p q : X → Bool) (xs : List X) → ((x : X) → p x ≡ true → q x ≡ true)
    → list_any p xs ≡ true → list_any q xs ≡ true
any_weaker p q [] weaker h = h
any_weaker p q (x ∷ xs) weaker h = elim (either_some (p x) (list_any p xs) h) [
  | inl it ↦ some_first (q x) (list_any q xs) (weaker x it)
  | inr rest ↦ some_second (q x) (list_any q xs) (any_weaker p q xs weaker rest)
]

-- the same, with an element in front or not
module _ {Y : Type 0} (p : Y → Bool) where
  any_among : (o : Option Y) (ys : List Y) → list_any p ys ≡ true → list_any p (cons_option o ys)
      ≡ true
  any_among None ys h = h
  any_among (Some y) ys h = some_second (p y) (list_any p ys) h

  any_kept : (o : Option Y) (ys zs : List Y) → (list_any p ys ≡ true → list_any p zs ≡ true)
      → list_any p (cons_option o ys) ≡ true → list_any p (cons_option o zs) ≡ true
  any_kept None ys zs more h = more h
  any_kept (Some y) ys zs more h = elim (either_some (p y) (list_any p ys) h) [
    | inl it ↦ some_first (p y) (list_any p zs) it
    | inr rest ↦ some_second (p y) (list_any p zs) (more rest)
  ]

-- what passes after some elements were dropped or removed, passed before
module _ {X Y : Type 0} (p : Y → Bool) (f : X → Option Y) where
  pub any_dropped : (xs : List X) → list_any p (filter_map f (drop 1 xs)) ≡ true
      → list_any p (filter_map f xs) ≡ true
  any_dropped [] h = h
  any_dropped (x ∷ xs) h = any_among p (f x) (filter_map f xs) h

  pub any_removed : (xs : List X) (at : ℕ) → list_any p (filter_map f (remove xs at)) ≡ true
      → list_any p (filter_map f xs) ≡ true
  any_removed [] zero h = h
  any_removed [] (suc at) h = h
  any_removed (x ∷ xs) zero h = any_among p (f x) (filter_map f xs) h
  any_removed (x ∷ xs) (suc at) h = any_kept p (f x) (filter_map f (remove xs at)) (filter_map f xs)
      (any_removed xs at) h
