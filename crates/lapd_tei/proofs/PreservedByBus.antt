-- The invariants that every event of a bus preserves. They imply that no two terminals hold the
-- same TEI.
--
-- A claim is a TEI together with its owner. The owner is the reference by which a terminal obtained
-- the TEI or an assignment in transit carries it, or the index of a terminal with a fixed TEI. All
-- claims on a TEI have the same owner, and a reference belongs to at most one terminal. A new claim
-- is made only on a TEI that the assigner does not hold. No claim on it exists, because the
-- assigner holds the TEIs in use (`KnowsInUse`).
use Rattle.std.proofs.Common.{◌≡◌, ◌≢◌, ℕ, zero, suc, List, [], ◌∷◌, ◌++◌, set, slice_get, Option, Some, None, inl, inr, ◌⊎◌, refl, ap, subst}
use Rattle.std.proofs.lemmas.Bool.{eq-eqb, ne_eqb}
use Rattle.std.specs.Prelude.{◌==◌, if◌then◌else◌}
use Rattle.std.specs.List.{All, AllByRecursion}
use Rattle.lapd_tei.specs.declared.message.TeiMessage.{TeiMessage}
use Rattle.lapd_tei.specs.declared.kind.TeiKind.{TeiKind}
use Rattle.lapd_tei.specs.declared.kind.TeiKind.TheVariants as kind
use Rattle.lapd_tei.specs.declared.phase.Phase.{Phase}
use Rattle.lapd_tei.specs.declared.phase.Phase.TheVariants.{Unassigned, Awaiting, Assigned}
use Rattle.lapd_tei.specs.Terminal.{tei_of}
use Rattle.lapd_tei.specs.Bus.{BusState}
use Rattle.lapd_tei.specs.Single.{Single, Differ}

pub data Owner : Type 0 where
  Reference : ℕ → Owner
  Place : ℕ → Owner

abbrev pub Sits : (ℕ → Option Owner) → (ℕ → Option ℕ) → ℕ → Phase → Type 0
Sits owner place_of i Unassigned = Unit {0}
Sits owner place_of i (Awaiting purpose count r) = place_of r ≡ Some i
Sits owner place_of i (Assigned None n) = owner n ≡ Some (Place i)
Sits owner place_of i (Assigned (Some r) n) = (owner n ≡ Some (Reference r)) × (place_of r ≡ Some i)

abbrev pub FitsKind : (ℕ → Option Owner) → TeiKind → ℕ → ℕ → Type 0
FitsKind owner kind.Assigned ri ai = owner ai ≡ Some (Reference ri)
FitsKind owner other ri ai = Unit {0}

abbrev pub Fits : (ℕ → Option Owner) → TeiMessage → Type 0
Fits owner m = FitsKind owner m.kind m.ri m.ai

pub record Owned (b : BusState) : Type 0 where
  pub owner : ℕ → Option Owner
  pub place_of : ℕ → Option ℕ
  pub seated : (i : ℕ) (t : Phase) → slice_get b.terminals i ≡ Some t → Sits owner place_of i t
  pub flying : All (λ f. Fits owner f.message) b.down

-- ---- The claim follows.

abbrev place_by : (ℕ → Option ℕ) → Owner → Option ℕ
place_by place_of (Reference r) = place_of r
place_by place_of (Place i) = Some i

owned_at : (owner : ℕ → Option Owner) (place_of : ℕ → Option ℕ) (i n : ℕ) (t : Phase)
    → Sits owner place_of i t → tei_of t ≡ Some n
    → (o : Owner) × (owner n ≡ Some o) × (place_by place_of o ≡ Some i)
owned_at owner place_of i n Unassigned h q = absurd cc
owned_at owner place_of i n (Awaiting purpose count r) h q = absurd cc
owned_at owner place_of i n (Assigned None tei) h q =
    let e : tei ≡ n = cc in (Place i, subst (λ k. owner k ≡ Some (Place i)) e h, refl)
owned_at owner place_of i n (Assigned (Some r) tei) h q =
    let e : tei ≡ n = cc in (Reference r, subst (λ k. owner k ≡ Some (Reference r)) e h.0, h.1)

same_owner : (x : Option Owner) (o p : Owner) → x ≡ Some o → x ≡ Some p → o ≡ p
same_owner x o p q r = cc

same_place : (place : Owner → Option ℕ) (o p : Owner) (i j : ℕ) → o ≡ p → place o ≡ Some i
    → place p ≡ Some j → i ≡ j
same_place place o p i j e q r = cc

pub single_from_owned : (b : BusState) → Owned b → Single b
single_from_owned b h i j n a c =
    let first : (o : Owner) × (h.owner n ≡ Some o) × (place_by h.place_of o ≡ Some i) =
    owned_at h.owner h.place_of i n a.terminal (h.seated i a.terminal a.there) a.its in
    let second : (o : Owner) × (h.owner n ≡ Some o) × (place_by h.place_of o ≡ Some j) =
    owned_at h.owner h.place_of j n c.terminal (h.seated j c.terminal c.there) c.its in
    same_place (place_by h.place_of) first.0 second.0 i j
    (same_owner (h.owner n) first.0 second.0 first.1 second.1) first.2 second.2

-- ---- Lists.

pub get_after_set : {X : Type 0} (xs : List X) (i j : ℕ) (y x : X)
    → slice_get (set xs i y) j ≡ Some x → ((j ≡ i) × (y ≡ x)) ⊎ (slice_get xs j ≡ Some x)
get_after_set [] i j y x q = inr q
get_after_set (z ∷ zs) zero zero y x q = inl (refl, cc)
get_after_set (z ∷ zs) zero (suc j) y x q = inr q
get_after_set (z ∷ zs) (suc i) zero y x q = inr q
get_after_set (z ∷ zs) (suc i) (suc j) y x q =
    elim (get_after_set zs i j y x q) [ inl h ↦ inl (ap suc h.0, h.1) | inr h ↦ inr h ]

pub all_back : {X : Type 0} (P : X → Type 0) (xs ys : List X) → AllByRecursion P (xs ++ ys)
    → AllByRecursion P ys
all_back P [] ys h = h
all_back P (x ∷ xs) ys h = all_back P xs ys h.1

pub all_front : {X : Type 0} (P : X → Type 0) (xs ys : List X) → AllByRecursion P (xs ++ ys)
    → AllByRecursion P xs
all_front P [] ys h = tt
all_front P (x ∷ xs) ys h = (h.0, all_front P xs ys h.1)

pub all_each : {X : Type 0} (P Q : X → Type 0) → ((x : X) → P x → Q x) → (xs : List X)
    → AllByRecursion P xs → AllByRecursion Q xs
all_each P Q step [] h = tt
all_each P Q step (x ∷ xs) h = (step x h.0, all_each P Q step xs h.1)

pub all_both : {X : Type 0} (P Q R : X → Type 0) → ((x : X) → P x → Q x → R x) → (xs : List X)
    → AllByRecursion P xs → AllByRecursion Q xs → AllByRecursion R xs
all_both P Q R step [] h k = tt
all_both P Q R step (x ∷ xs) h k = (step x h.0 k.0, all_both P Q R step xs h.1 k.1)

pub differ_rest : (xs ys : List ℕ) → Differ (xs ++ ys) → Differ ys
differ_rest [] ys h = h
differ_rest (x ∷ xs) ys h = differ_rest xs ys h.1

nothing_differs : (ys : List ℕ) → AllByRecursion (λ y. AllByRecursion (λ x. y ≢ x) []) ys
nothing_differs [] = tt
nothing_differs (y ∷ ys) = (tt, nothing_differs ys)

pub differ_across : (xs ys : List ℕ) → Differ (xs ++ ys)
    → AllByRecursion (λ y. AllByRecursion (λ x. y ≢ x) xs) ys
differ_across [] ys h = nothing_differs ys
differ_across (x ∷ xs) ys h =
    all_both (λ y. y ≢ x) (λ y. AllByRecursion (λ z. y ≢ z) xs)
    (λ y. AllByRecursion (λ z. y ≢ z) (x ∷ xs))
    (λ y other rest. (other, rest))
    ys (all_back (λ y. y ≢ x) xs ys h.0) (differ_across xs ys h.1)

-- ---- A function changed at one number.

pub pick_yes : {X : Type 0} (k n : ℕ) (x y : X) → k ≡ n → (if k == n then x else y) ≡ x
pick_yes k n x y e = rw (eq-eqb k n e) refl

pub pick_no : {X : Type 0} (k n : ℕ) (x y : X) → k ≢ n → (if k == n then x else y) ≡ y
pick_no k n x y e = rw (ne_eqb k n e) refl
