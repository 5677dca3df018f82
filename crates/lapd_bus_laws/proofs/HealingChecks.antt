-- Tests of a run that imply the premises of a check, to compute worked runs.
use Rattle.std.proofs.Common.{◌≡◌, ℕ, ◌==◌, ◌&&◌, not, zero, suc, List, [], ◌∷◌, Bool, true, false, Option, Some, None, refl, sym, ap, subst, ◌∙◌}
use Rattle.std.specs.Prelude.{slice_get}
use Rattle.std.specs.List.{list_any, remove}
use Rattle.lapd_frame.specs.declared.Side.{Side}
use Rattle.lapd_frame.specs.declared.Side.TheVariants as side
use Rattle.lapd_tei.specs.declared.kind.TeiKind.TheVariants as kind
use Rattle.lapd_tei.specs.declared.message.TeiMessage.{TeiMessage}
use Rattle.lapd_tei.specs.Assigner.{checked}
use Rattle.lapd_tei.specs.Terminal.{reference_of}
use Rattle.lapd_sides.specs.User.{User, has_tei}
use Rattle.lapd_side_events.specs.Interface.{Configs}
use Rattle.lapd_side_events.specs.SideView.{SideView, SideEvent, Take, Lose, Expire, Ask, Overhear}
use Rattle.lapd_link_definition.proofs.Sending.{both_true}
use Rattle.lapd_two_side_laws.proofs.MoveTests.{not_so}
use Rattle.lapd_bus_laws.specs.Assignments.{claims, awaits}
use Rattle.lapd_side_events.specs.Bus.{Bus, BusEvent, OfTerminal, OfNetwork, Join, Restart}
use Rattle.lapd_bus_laws.specs.Healing.{message_in, has_incoming, has_outgoing, LosesNoMessage, DeliversMessages, WaitsForResponses, CarriesCheckOn, Heals, IsCheckOver, ReferencesDiffer}
use Rattle.lapd_bus_laws.specs.Holdings.{AreApart}
use Rattle.lapd_bus_laws.proofs.Checks.{where_there, there_so, of_bus, of_bus_so, joins_with_free, joins_with_free_so}
use Rattle.lapd_bus_laws.proofs.Claims.{has_itself}
use Rattle.lapd_bus_laws.proofs.Lists.{Unique, any_at, not_both, any_other}
use Rattle.lapd_side_events.proofs.Indices.{equal_index, apart_index}
use Rattle.lapd_bus_laws.proofs.PremisesOfInterface.{has_not}

-- ---- Messages are delivered.

abbrev names_other : ℕ → Option TeiMessage → Bool
names_other tei None = true
names_other tei (Some m) = not (m.ai == tei)

abbrev carries_other : ℕ → Side → Option (List ℕ) → Bool
carries_other tei from None = true
carries_other tei from (Some octets) = names_other tei (message_in from octets)

abbrev loses_none : ℕ → Side → SideEvent → List (List ℕ) → Bool
loses_none tei from (Lose at) line = carries_other tei from (slice_get line at)
loses_none tei from other line = true

loses_none_so : (tei : ℕ) (from : Side) (event : SideEvent) (line : List (List ℕ))
    → loses_none tei from event line ≡ true → LosesNoMessage tei from event line
loses_none_so tei from (Take now) line h = tt
loses_none_so tei from (Lose at) line h = λ octets m there is.
    not_so (m.ai == tei) (subst (λ (o : Option TeiMessage). names_other tei o ≡ true) is
    (subst (λ (o : Option (List ℕ)). carries_other tei from o ≡ true) there h))
loses_none_so tei from (Expire timer of now) line h = tt
loses_none_so tei from (Ask request now) line h = tt
loses_none_so tei from (Overhear octets now) line h = tt

abbrev pub delivers : ℕ → BusEvent → Bus → Bool
delivers tei (OfTerminal j event) b = where_there (λ t.
    loses_none tei side.Network event t.incoming) (slice_get b.terminals j)
delivers tei (OfNetwork j event) b = where_there (λ t.
    loses_none tei side.User event t.outgoing) (slice_get b.terminals j)
delivers tei other b = true

pub delivers_so : (tei : ℕ) (e : BusEvent) (b : Bus) → delivers tei e b ≡ true
    → DeliversMessages tei e b
delivers_so tei (OfTerminal j event) b h = λ t at.
    loses_none_so tei side.Network event t.incoming (there_so (λ u.
    loses_none tei side.Network event u.incoming) (slice_get b.terminals j) t at h)
delivers_so tei (OfNetwork j event) b h = λ t at.
    loses_none_so tei side.User event t.outgoing (there_so (λ u.
    loses_none tei side.User event u.outgoing) (slice_get b.terminals j) t at h)
delivers_so tei (Join j new) b h = tt
delivers_so tei (Restart known) b h = tt

-- ---- The check is carried on.

abbrev has_check : ℕ → Bus → Bool
has_check tei b = has_tei tei (checked b.network.management.check)

abbrev is_answered : ℕ → Bus → Bool
is_answered tei b = not (list_any (has_incoming kind.CheckRequest tei) b.terminals)
    && not (list_any (has_outgoing kind.CheckResponse tei) b.terminals)

abbrev waits : ℕ → SideEvent → Bus → Bool
waits tei (Expire timer None now) b = is_answered tei b
waits tei other b = true

waits_so : (tei : ℕ) (event : SideEvent) (b : Bus) → waits tei event b ≡ true
    → WaitsForResponses tei event b
waits_so tei (Take now) b h = tt
waits_so tei (Lose at) b h = tt
waits_so tei (Expire timer None now) b h = λ its.
    (let two = both_true (not (list_any (has_incoming kind.CheckRequest tei) b.terminals))
    (not (list_any (has_outgoing kind.CheckResponse tei) b.terminals)) h in
    record { requests = not_so _ two.0; responses = not_so _ two.1 })
waits_so tei (Expire timer (Some id) now) b h = tt
waits_so tei (Ask request now) b h = tt
waits_so tei (Overhear octets now) b h = tt

abbrev pub carries_on : ℕ → BusEvent → Bus → Bool
carries_on tei (OfNetwork j event) b = waits tei event b
carries_on tei (Restart known) b = not (has_check tei b)
carries_on tei other b = true

pub carries_on_so : (tei : ℕ) (e : BusEvent) (b : Bus) → carries_on tei e b ≡ true
    → CarriesCheckOn tei e b
carries_on_so tei (OfTerminal j event) b h = tt
carries_on_so tei (OfNetwork j event) b h = waits_so tei event b h
carries_on_so tei (Join j new) b h = tt
carries_on_so tei (Restart known) b h = λ its.
    has_not tei (checked b.network.management.check) (not_so (has_check tei b) h) its

module _ (c : Configs) where
  abbrev pub heals : ℕ → BusEvent → Bus → Bool
  heals tei e b = of_bus e b
      && (delivers tei e b && (carries_on tei e b && joins_with_free c e b))

  pub heals_so : (tei : ℕ) (e : BusEvent) (b : Bus) → heals tei e b ≡ true → Heals tei e b
  heals_so tei e b h =
      let one = both_true (of_bus e b) _ h in
      let two = both_true (delivers tei e b) _ one.1 in
      let three = both_true (carries_on tei e b) (joins_with_free c e b) two.1 in
      record {
        of_bus = of_bus_so e b one.0;
        delivers = delivers_so tei e b two.0;
        check = carries_on_so tei e b three.0;
        joins = joins_with_free_so c e b three.1;
      }

-- ---- A check that is over.

abbrev pub is_over : ℕ → Bus → Bool
is_over tei b = not (has_check tei b) && not (list_any (has_incoming kind.Remove tei) b.terminals)

pub is_over_so : (tei : ℕ) (b : Bus) → is_over tei b ≡ true → IsCheckOver tei b
is_over_so tei b h =
    let two = both_true (not (has_check tei b)) _ h in
    record {
      ended = has_not tei (checked b.network.management.check) (not_so (has_check tei b) two.0);
      removals = not_so _ two.1;
    }

-- ---- References.

abbrev has_last : ℕ → SideView User → Bool
has_last ri t = has_tei ri (reference_of t.now.management.terminal)

abbrev is_unlike : Option ℕ → List (SideView User) → Bool
is_unlike None ts = true
is_unlike (Some ri) ts = not (list_any (has_last ri) ts)

abbrev all_differ : List (SideView User) → Bool
all_differ [] = true
all_differ (t ∷ ts) = is_unlike (reference_of t.now.management.terminal) ts && all_differ ts

abbrev LastIs : ℕ → SideView User → Type 0
LastIs ri t = reference_of t.now.management.terminal ≡ Some ri

unlike_so : (ri : ℕ) (o : Option ℕ) (ts : List (SideView User)) → o ≡ Some ri
    → is_unlike o ts ≡ true → (k : ℕ) (u : SideView User) → slice_get ts k ≡ Some u → LastIs ri u
    → ⊥
unlike_so ri o ts is h k u there its =
    let none : list_any (has_last ri) ts ≡ false =
    not_so _ (subst (λ (x : Option ℕ). is_unlike x ts ≡ true) is h) in
    not_both (has_last ri u) (has_itself ri (reference_of u.now.management.terminal) its)
    (any_at (has_last ri) ts k u none there)

all_differ_so : (ts : List (SideView User)) → all_differ ts ≡ true → (ri : ℕ)
    → Unique (LastIs ri) ts
all_differ_so [] h ri i j t u hi hj ti uj = cc
all_differ_so (t ∷ ts) h ri zero zero x y hi hj xi yj = refl
all_differ_so (t ∷ ts) h ri zero (suc j) x y hi hj xi yj =
    let two = both_true (is_unlike (reference_of t.now.management.terminal) ts) _ h in
    let e : t ≡ x = cc in
    absurd (unlike_so ri (reference_of t.now.management.terminal) ts
    (subst (LastIs ri) (sym e) xi) two.0 j y hj yj)
all_differ_so (t ∷ ts) h ri (suc i) zero x y hi hj xi yj =
    let two = both_true (is_unlike (reference_of t.now.management.terminal) ts) _ h in
    let e : t ≡ y = cc in
    absurd (unlike_so ri (reference_of t.now.management.terminal) ts
    (subst (LastIs ri) (sym e) yj) two.0 i x hi xi)
all_differ_so (t ∷ ts) h ri (suc i) (suc j) x y hi hj xi yj =
    let two = both_true (is_unlike (reference_of t.now.management.terminal) ts) _ h in
    ap suc (all_differ_so ts two.1 ri i j x y hi hj xi yj)

abbrev pub references_differ : Bus → Bool
references_differ b = all_differ b.terminals

pub references_differ_so : (b : Bus) → references_differ b ≡ true → ReferencesDiffer b
references_differ_so b h = all_differ_so b.terminals h

-- ---- Terminals that are apart.

-- only the terminal at an index claims TEIs, and no terminal awaits one
pub apart_by : (i : ℕ) (b : Bus)
    → ((tei : ℕ) → list_any (claims tei) (remove b.terminals i) ≡ false)
    → ((ri : ℕ) → list_any (awaits ri) b.terminals ≡ false) → AreApart b
apart_by i b alone idle = record {
  teis = λ tei j k t u hj hk ct cu. its tei j t hj ct ∙ sym (its tei k u hk cu);
  references = λ ri j k t u hj hk wt wu.
      absurd (not_both (awaits ri t) wt (any_at (awaits ri) b.terminals j t (idle ri) hj));
}
  where
    its : (tei j : ℕ) (t : SideView User) → slice_get b.terminals j ≡ Some t → claims tei t ≡ true
        → j ≡ i
    its tei j t there claim = by (j == i) refl
      where
        by : (test : Bool) → (j == i) ≡ test → j ≡ i
        by true is = equal_index j i is
        by false is = absurd (not_both (claims tei t) claim
            (any_other (claims tei) b.terminals i j t (alone tei) there (apart_index j i is)))
