-- At most one terminal claims a TEI, at each moment: it holds the TEI, or an assignment of it that
-- answers its outstanding request is in transit to it.
use Rattle.std.proofs.Common.{◌≡◌, ◌⊎◌, inl, inr, ℕ, ◌==◌, ◌&&◌, List, [], ◌∷◌, ◌++◌, Bool, true, false, Option, Some, None, refl, sym, ap, subst, ◌∙◌, arith}
use Rattle.std.specs.Prelude.{◌||◌}
use Rattle.std.specs.List.{list_any, filter_map, cons_option}
use Rattle.std.proofs.lemmas.Bool.Decides.{nat_tests}
use Rattle.std.proofs.lemmas.List.{append-nil}
use Rattle.std.proofs.lemmas.List.Elements.{filter_map-append}
use Rattle.std.proofs.lemmas.List.Folds.{list_any-append}
use Rattle.lapd_tei.specs.declared.phase.Phase.{Phase}
use Rattle.lapd_tei.specs.Terminal.{tei_of}
use Rattle.lapd_sides_links.specs.Links.{Reaction}
use Rattle.lapd_sides.specs.Network.{Network}
use Rattle.lapd_sides.specs.User.{User, has_tei}
use Rattle.lapd_side_events.specs.Interface.{Configs, user_behaviour}
use Rattle.lapd_two_side_laws.specs.Premises.{is_assignment}
use Rattle.lapd_side_events.specs.SideView.{SideView, SideEvent, Take, Lose, Expire, Ask, Overhear, reaction, left, does}
use Rattle.lapd_bus_laws.specs.Assignments.{Assignment, assignment_in, assignments, holds, is_of_tei, is_sent, awaited, awaits, has_reference, is_answered, is_offer, claims, is_taken}
use Rattle.lapd_side_events.specs.Bus.{OverhearsNothing, reached_by}
use Rattle.lapd_bus_laws.proofs.Assigns.{AssignsOne}
use Rattle.lapd_link_definition.proofs.Sending.{both_true}
use Rattle.lapd_bus_laws.proofs.Lists.{either_some, some_first, some_second, not_both, any_weaker, any_dropped, any_removed}
use Rattle.lapd_bus_laws.proofs.Obtains.{FirstAnswers, TakesAnswer, event_obtains}
use Rattle.lapd_bus_laws.proofs.PremisesOfInterface.{has_so}

-- ---- Tests.

and_so : (a b : Bool) → a ≡ true → b ≡ true → (a && b) ≡ true
and_so true b h g = g
and_so false b h g = cc

pub has_itself : (t : ℕ) (o : Option ℕ) → o ≡ Some t → has_tei t o ≡ true
has_itself t o is = rw is (let e : (t == t) ≡ true = grind (arith, nat_tests) in e)

pub same_tei : (n : ℕ) → (n == n) ≡ true
same_tei n = grind (arith, nat_tests)

-- assignments that stay in transit were in transit
pub any_left : (p : Assignment → Bool) (event : SideEvent) (line : List (List ℕ))
    → list_any p (filter_map assignment_in (left event line)) ≡ true
    → list_any p (filter_map assignment_in line) ≡ true
any_left p (Take now) line h = any_dropped p assignment_in line h
any_left p (Lose at) line h = any_removed p assignment_in line at h
any_left p (Expire timer of now) line h = h
any_left p (Ask request now) line h = h
any_left p (Overhear octets now) line h = h

abbrev pub Claims : ℕ → SideView User → Type 0
Claims tei t = claims tei t ≡ true

abbrev pub Awaits : ℕ → SideView User → Type 0
Awaits ri t = awaits ri t ≡ true

-- a claim shows in the TEI or on the line
pub claim_is_taken : (tei : ℕ) (t : SideView User) → Claims tei t → is_taken tei t ≡ true
claim_is_taken tei t h = elim (either_some (holds tei t)
    (list_any (is_offer tei t.now.management.terminal) (assignments t)) h) [
      | inl it ↦ some_first (holds tei t) (is_sent tei t) it
      | inr offered ↦ some_second (holds tei t) (is_sent tei t)
          (any_weaker (is_offer tei t.now.management.terminal) (is_of_tei tei) (assignments t)
          (λ a is.
          (both_true (is_of_tei tei a) (has_tei a.reference (awaited t.now.management.terminal))
          is).0) offered)
    ]

-- ---- An event of a terminal: who claims a TEI afterwards, claimed it before.

module _ (c : Configs) (event : SideEvent) (t : SideView User) (ok : OverhearsNothing event) where
  abbrev After : SideView User
  After = does (user_behaviour c.user) event t

  -- the first octets on the line are such an assignment
  answer_claims : (tei : ℕ) (line : List (List ℕ)) → FirstAnswers t.now line tei
      → list_any (is_offer tei t.now.management.terminal) (filter_map assignment_in line) ≡ true
  answer_claims tei [] impossible = absurd impossible
  answer_claims tei (octets ∷ rest) answer = ap (λ (o : Option Assignment).
      list_any (is_offer tei t.now.management.terminal)
      (cons_option o (filter_map assignment_in rest)))
      answer.assignment
      ∙ (some_first (is_offer tei t.now.management.terminal (record
      { reference = answer.reference; tei = tei }))
      (list_any (is_offer tei t.now.management.terminal) (filter_map assignment_in rest))
      (and_so (tei == tei) (has_tei answer.reference (awaited t.now.management.terminal))
      (same_tei tei)
      (has_itself answer.reference (awaited t.now.management.terminal) answer.outstanding)))

  takes_claimed : (tei : ℕ) (e : SideEvent) → TakesAnswer e t tei → Claims tei t
  takes_claimed tei (Take now) answer = some_second (holds tei t) _
      (answer_claims tei t.incoming answer)
  takes_claimed tei (Lose at) impossible = absurd impossible
  takes_claimed tei (Expire timer of now) impossible = absurd impossible
  takes_claimed tei (Ask request now) impossible = absurd impossible
  takes_claimed tei (Overhear octets now) impossible = absurd impossible

  -- a TEI that is obtained was claimed
  pub obtains_claimed : (tei : ℕ) → list_any (is_assignment tei)
      (reaction (user_behaviour c.user) event t).effects.primitives ≡ true → Claims tei t
  obtains_claimed tei got = takes_claimed tei event ((event_obtains c.user event t ok).got tei got)

  holder_claimed : (tei : ℕ) → holds tei After ≡ true → Claims tei t
  unfolding does
  holder_claimed tei h =
      let o = event_obtains c.user event t ok in
      elim (o.held tei (has_so tei (tei_of (reaction (user_behaviour c.user) event
      t).after.management.terminal) h)) [
        | inl before ↦ some_first (holds tei t) _
            (has_itself tei (tei_of t.now.management.terminal) before)
        | inr got ↦ obtains_claimed tei got
      ]

  module _ (requests : (ri : ℕ) → Awaits ri After → Awaits ri t ⊎ (is_answered ri After ≡ false))
    where
      -- offers depend on the reference that is awaited
      offer_by : (tei : ℕ) (phase old : Phase) (o : Option ℕ) (line : List Assignment)
          → awaited phase
          ≡ o → ((ri : ℕ) → o ≡ Some ri → (awaited old ≡ Some ri)
          ⊎ (list_any (has_reference ri) line ≡ false))
          → list_any (is_offer tei phase) line ≡ true → list_any (is_offer tei old) line ≡ true
      offer_by tei phase old None line is asks h = any_weaker (is_offer tei phase)
          (is_offer tei old)
          line
          (λ a offer.
          absurd (has_not_none a.reference (ap (has_tei a.reference) (sym is)
          ∙ (both_true (is_of_tei tei a) (has_tei a.reference (awaited phase)) offer).1))) h
        where
          has_not_none : (ri : ℕ) → has_tei ri None ≡ true → ⊥
          has_not_none ri is = cc
      offer_by tei phase old (Some ri) line is asks h = elim (asks ri refl) [
        | inl before ↦ any_weaker (is_offer tei phase) (is_offer tei old) line
            (λ a offer.
            let two = both_true (is_of_tei tei a) (has_tei a.reference (awaited phase)) offer in
            and_so (is_of_tei tei a) (has_tei a.reference (awaited old)) two.0
            (ap (has_tei a.reference) (before ∙ sym is) ∙ two.1)) h
        | inr none ↦ absurd (not_both (list_any (has_reference ri) line)
            (any_weaker (is_offer tei phase) (has_reference ri) line
            (λ a offer.
            let two = both_true (is_of_tei tei a) (has_tei a.reference (awaited phase)) offer in
            same_reference a.reference (ap (has_tei a.reference) (sym is) ∙ two.1)) h) none)
      ]
        where
          same_reference : (n : ℕ) → (ri == n) ≡ true → (n == ri) ≡ true
          same_reference n e = grind (arith, nat_tests, e)

      offered_claimed : (tei : ℕ)
          → list_any (is_offer tei After.now.management.terminal) (assignments After)
          ≡ true → Claims tei t
      unfolding does
      offered_claimed tei h =
          let phase = (reaction (user_behaviour c.user) event t).after.management.terminal in
          some_second (holds tei t) _
          (any_left (is_offer tei t.now.management.terminal) event t.incoming
          (offer_by tei phase t.now.management.terminal (awaited phase)
          (filter_map assignment_in (left event t.incoming)) refl
          (λ ri is. elim (requests ri (has_itself ri (awaited phase) is)) [
            | inl before ↦ inl (has_so ri (awaited t.now.management.terminal) before)
            | inr none ↦ inr none
          ]) h))

      pub claims_before : (tei : ℕ) → Claims tei After → Claims tei t
      claims_before tei h = elim (either_some (holds tei After)
          (list_any (is_offer tei After.now.management.terminal) (assignments After)) h) [
            | inl it ↦ holder_claimed tei it
            | inr offered ↦ offered_claimed tei offered
          ]

-- ---- Frames of the network reach a terminal.

-- frames without an assignment change no claim
pub reached_by_none : (frames : List (List ℕ)) (t : SideView User) → filter_map assignment_in frames
    ≡ [] → assignments (reached_by frames t) ≡ assignments t
reached_by_none frames t none = filter_map-append assignment_in t.incoming frames
    ∙ rw none (append-nil (assignments t))

pub reached_by_one : (frames : List (List ℕ)) (x : Assignment) (t : SideView User)
    → filter_map assignment_in frames ≡ x ∷ [] → assignments (reached_by frames t)
    ≡ assignments t ++ x ∷ []
reached_by_one frames x t one = filter_map-append assignment_in t.incoming frames ∙ rw one refl

or_none : (b : Bool) → (b || false) ≡ true → b ≡ true
or_none true h = refl
or_none false h = cc

claims_on : (tei : ℕ) (t : SideView User) (line : List Assignment)
    → (holds tei t || list_any (is_offer tei t.now.management.terminal) line) ≡ true
    → line ≡ assignments t
    → Claims tei t
claims_on tei t line h is = subst (λ (l : List Assignment).
    (holds tei t || list_any (is_offer tei t.now.management.terminal) l) ≡ true) is h

-- who claims a TEI after an assignment, claimed it before, or awaits it by this reference
claims_with : (tei : ℕ) (t : SideView User) (x : Assignment)
    → (holds tei t || list_any (is_offer tei t.now.management.terminal) (assignments t ++ x ∷ []))
    ≡ true
    → Claims tei t ⊎ ((x.tei ≡ tei) × Awaits x.reference t)
claims_with tei t x h = elim (either_some (holds tei t) _ h) [
  | inl it ↦ inl (some_first (holds tei t) _ it)
  | inr offered ↦ elim
      (either_some (list_any (is_offer tei t.now.management.terminal) (assignments t))
      (is_offer tei t.now.management.terminal x || false)
      (sym (list_any-append (is_offer tei t.now.management.terminal)
      (assignments t) (x ∷ [])) ∙ offered)) [
        | inl before ↦ inl (some_second (holds tei t) _ before)
        | inr new ↦ (let two = both_true (is_of_tei tei x)
            (has_tei x.reference (awaited t.now.management.terminal))
            (or_none (is_offer tei t.now.management.terminal x) new) in
            inr ((let e = two.0 in grind (arith, nat_tests, e)), two.1))
      ]
]

-- who claims a TEI after an event of the network
pub reached_without : (tei : ℕ) (frames : List (List ℕ)) (t : SideView User)
    → filter_map assignment_in frames ≡ [] → Claims tei (reached_by frames t) → Claims tei t
reached_without tei frames t none h = claims_on tei t (assignments (reached_by frames t)) h
    (reached_by_none frames t none)

pub reached_with : (tei : ℕ) (frames : List (List ℕ)) (x : Assignment) (t : SideView User)
    → filter_map assignment_in frames ≡ x ∷ [] → Claims tei (reached_by frames t)
    → Claims tei t ⊎ ((x.tei ≡ tei) × Awaits x.reference t)
reached_with tei frames x t one h = claims_with tei t x
    (subst (λ (l : List Assignment).
    (holds tei t || list_any (is_offer tei t.now.management.terminal) l) ≡ true)
    (reached_by_one frames x t one) h)

pub reached_by_assignment : (c : Configs) (s : Network) (a : Reaction Network)
    (one : AssignsOne c.network s a) (tei : ℕ) (t : SideView User)
    → Claims tei (reached_by a.effects.frames t)
    → Claims tei t ⊎ ((one.assignment.tei ≡ tei) × Awaits one.assignment.reference t)
reached_by_assignment c s a one tei t h = elim one.frames [
  | inl none ↦ inl (reached_without tei a.effects.frames t none h)
  | inr its ↦ reached_with tei a.effects.frames one.assignment t its h
]
