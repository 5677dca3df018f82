-- The steps of a terminal preserve the invariants of the bus.
use Rattle.std.proofs.Common.{◌≡◌, ◌≢◌, ℕ, Bool, true, List, [], ◌∷◌, ◌++◌, set, slice_get, Option, Some, None, inl, inr, refl, sym, ap, subst, ◌∙◌}
use Rattle.std.proofs.lemmas.Bool.{cases_eq, eqb-true, cond_both, and_parts}
use Rattle.std.specs.Prelude.{◌==◌, ◌&&◌, not, nat_lt, if◌then◌else◌}
use Rattle.std.specs.List.{AllByRecursion}
use Rattle.lapd_tei.specs.declared.kind.TeiKind.{TeiKind}
use Rattle.lapd_tei.specs.declared.kind.TeiKind.TheVariants as kind
use Rattle.lapd_tei.specs.declared.phase.Phase.{Phase}
use Rattle.lapd_tei.specs.declared.phase.Phase.TheVariants.{Unassigned, Awaiting, Assigned}
use Rattle.lapd_tei.specs.declared.phase.Purpose.{Purpose}
use Rattle.lapd_tei.specs.declared.terminal.TerminalEvent.{TerminalEvent}
use Rattle.lapd_tei.specs.declared.terminal.TerminalEvent.TheVariants as event
use Rattle.lapd_tei.specs.Out.{sent}
use Rattle.lapd_tei.specs.Terminal.{TerminalStep, terminal_step, awaiting_receives, assigned_receives, asks_again, is_automatic, is_got_by, names, n202, tei_of, reference_of}
use Rattle.lapd_tei.specs.Bus.{BusState, terminal_did}
use Rattle.lapd_tei.specs.Single.{references, Differ, assigned_by}
use Rattle.lapd_tei.specs.Service.{IsKnown, IsNoOthers}
use Rattle.lapd_tei.proofs.PreservedByBus.{Owner, Reference, Sits, FitsKind, Fits, Owned, get_after_set, all_back, all_both, differ_across, pick_yes, pick_no}

-- ---- Its claim.

-- the references that a terminal at this index requested by now belong to it
abbrev pub noting : (ℕ → Option ℕ) → ℕ → List ℕ → ℕ → Option ℕ
noting place_of i [] k = place_of k
noting place_of i (r ∷ rs) k = if k == r then Some i else noting place_of i rs k

-- a received message agrees with the owners
abbrev pub ReceivesFitting : (ℕ → Option Owner) → TerminalEvent → Type 0
ReceivesFitting owner (event.Heard m ri) = Fits owner m
ReceivesFitting owner other = Unit {0}

-- the terminal after a step is seated, and the references that it requested by are noted
abbrev pub SitsAfter : (ℕ → Option Owner) → (ℕ → Option ℕ) → ℕ → TerminalStep → Type 0
SitsAfter owner place_of i done =
    Sits owner (noting place_of i (references (sent done.outs))) i done.now

-- the assignment that a terminal accepts has its own reference
takes_own : (owner : ℕ → Option Owner) (place_of : ℕ → Option ℕ) (i ri its ai : ℕ)
    → ((its == ri) && is_automatic ai) ≡ true
    → place_of ri ≡ Some i → owner ai ≡ Some (Reference its)
    → Sits owner place_of i (Assigned (Some ri) ai)
takes_own owner place_of i ri its ai test h fits = (
  subst (λ r. owner ai ≡ Some (Reference r))
      (eqb-true its ri (and_parts (its == ri) (is_automatic ai) test).0) fits,
  h,
)

awaiting_own : (owner : ℕ → Option Owner) (place_of : ℕ → Option ℕ) (i : ℕ) (purpose : Purpose)
    (count ri : ℕ) (k : TeiKind) (its ai : ℕ)
    → place_of ri ≡ Some i → FitsKind owner k its ai
    → SitsAfter owner place_of i (awaiting_receives purpose count ri k its ai)
awaiting_own owner place_of i purpose count ri kind.Assigned its ai h fits =
    cond_both _ _ _ (SitsAfter owner place_of i)
    (λ test. takes_own owner place_of i ri its ai test h fits)
    (λ test. h)
awaiting_own owner place_of i purpose count ri kind.Request its ai h fits = h
awaiting_own owner place_of i purpose count ri kind.Denied its ai h fits = h
awaiting_own owner place_of i purpose count ri kind.CheckRequest its ai h fits = h
awaiting_own owner place_of i purpose count ri kind.CheckResponse its ai h fits = h
awaiting_own owner place_of i purpose count ri kind.Remove its ai h fits = h
awaiting_own owner place_of i purpose count ri kind.Verify its ai h fits = h

assigned_own : (owner : ℕ → Option Owner) (place_of : ℕ → Option ℕ) (i : ℕ) (by : Option ℕ)
    (tei : ℕ) (k : TeiKind) (its ai new : ℕ)
    → Sits owner place_of i (Assigned by tei)
    → SitsAfter owner place_of i (assigned_receives by tei k its ai new)
assigned_own owner place_of i by tei kind.Assigned its ai new h =
    cond_both ((ai == tei) && not (is_got_by by its)) _ _ (SitsAfter owner place_of i) (λ test. tt)
    (λ test. h)
assigned_own owner place_of i by tei kind.CheckRequest its ai new h =
    cond_both (names ai tei) _ _ (SitsAfter owner place_of i) (λ test. h) (λ test. h)
assigned_own owner place_of i by tei kind.Remove its ai new h =
    cond_both (names ai tei) _ _ (SitsAfter owner place_of i) (λ test. tt) (λ test. h)
assigned_own owner place_of i by tei kind.Request its ai new h = h
assigned_own owner place_of i by tei kind.Denied its ai new h = h
assigned_own owner place_of i by tei kind.CheckResponse its ai new h = h
assigned_own owner place_of i by tei kind.Verify its ai new h = h

again_own : (owner : ℕ → Option Owner) (place_of : ℕ → Option ℕ) (i : ℕ) (purpose : Purpose)
    (count ri new : ℕ) → SitsAfter owner place_of i (asks_again purpose count ri new)
again_own owner place_of i purpose count ri new =
    cond_both (nat_lt count n202) _ _ (SitsAfter owner place_of i)
    (λ test. pick_yes new new (Some i) (place_of new) refl) (λ test. tt)

terminal_own : (owner : ℕ → Option Owner) (place_of : ℕ → Option ℕ) (i : ℕ) (t : Phase)
    (e : TerminalEvent) → Sits owner place_of i t → ReceivesFitting owner e
    → SitsAfter owner place_of i (terminal_step t e)
terminal_own owner place_of i Unassigned (event.Ask ri) h fits =
    pick_yes ri ri (Some i) (place_of ri) refl
terminal_own owner place_of i Unassigned (event.Want ri) h fits =
    pick_yes ri ri (Some i) (place_of ri) refl
terminal_own owner place_of i Unassigned (event.Heard m ri) h fits = h
terminal_own owner place_of i Unassigned (event.T202 ri) h fits = h
terminal_own owner place_of i Unassigned event.Leave h fits = h
terminal_own owner place_of i (Awaiting purpose count r) (event.Ask ri) h fits = h
terminal_own owner place_of i (Awaiting purpose count r) (event.Want ri) h fits = h
terminal_own owner place_of i (Awaiting purpose count r) (event.Heard m ri) h fits =
    awaiting_own owner place_of i purpose count r m.kind m.ri m.ai h fits
terminal_own owner place_of i (Awaiting purpose count r) (event.T202 ri) h fits =
    again_own owner place_of i purpose count r ri
terminal_own owner place_of i (Awaiting purpose count r) event.Leave h fits = tt
terminal_own owner place_of i (Assigned by tei) (event.Ask ri) h fits = h
terminal_own owner place_of i (Assigned by tei) (event.Want ri) h fits = h
terminal_own owner place_of i (Assigned by tei) (event.Heard m ri) h fits =
    assigned_own owner place_of i by tei m.kind m.ri m.ai ri h
terminal_own owner place_of i (Assigned by tei) (event.T202 ri) h fits = h
terminal_own owner place_of i (Assigned by tei) event.Leave h fits = tt

-- another terminal's reference keeps its index, as this terminal did not request by it
noting_same : (b : BusState) (place_of : ℕ → Option ℕ) (i : ℕ) (rs : List ℕ) (k j : ℕ) (t : Phase)
    → slice_get b.terminals j ≡ Some t → reference_of t ≡ Some k
    → AllByRecursion (IsNoOthers b (Some i)) rs → place_of k ≡ Some j
    → noting place_of i rs k ≡ Some j
noting_same b place_of i [] k j t there its own some = some
noting_same b place_of i (r ∷ rs) k j t there its own some = elim (cases_eq k r) [
  | inl same ↦ pick_yes k r (Some i) (noting place_of i rs k) same
      ∙ own.0 j (record { terminal = t; there = there; its = its ∙ ap Some same })
  | inr other ↦ pick_no k r (Some i) (noting place_of i rs k) other
      ∙ noting_same b place_of i rs k j t there its own.1 some
]

-- the other terminals keep their owners
others_own : (b : BusState) (owner : ℕ → Option Owner) (place_of : ℕ → Option ℕ) (i : ℕ)
    (rs : List ℕ) (j : ℕ) (t : Phase) → slice_get b.terminals j ≡ Some t
    → AllByRecursion (IsNoOthers b (Some i)) rs → Sits owner place_of j t
    → Sits owner (noting place_of i rs) j t
others_own b owner place_of i rs j Unassigned there own h = h
others_own b owner place_of i rs j (Awaiting purpose count r) there own h =
    noting_same b place_of i rs r j (Awaiting purpose count r) there refl own h
others_own b owner place_of i rs j (Assigned None n) there own h = h
others_own b owner place_of i rs j (Assigned (Some r) n) there own h =
    (h.0, noting_same b place_of i rs r j (Assigned (Some r) n) there refl own h.1)

seated_after : (b : BusState) (owner : ℕ → Option Owner) (place_of : ℕ → Option ℕ) (i : ℕ)
    (rs : List ℕ) (now : Phase)
    → ((j : ℕ) (t : Phase) → slice_get b.terminals j ≡ Some t → Sits owner place_of j t)
    → AllByRecursion (IsNoOthers b (Some i)) rs → Sits owner (noting place_of i rs) i now
    → (j : ℕ) (t : Phase) → slice_get (set b.terminals i now) j ≡ Some t
    → Sits owner (noting place_of i rs) j t
seated_after b owner place_of i rs now seated own new j t there =
    elim (get_after_set b.terminals i j now t there) [
      | inl h ↦ subst (λ k. Sits owner (noting place_of i rs) k t) (sym h.0)
          (subst (λ p. Sits owner (noting place_of i rs) i p) h.1 new)
      | inr old ↦ others_own b owner place_of i rs j t old own (seated j t old)
    ]

-- the bus after a step of the terminal at index i, which received a fitting message
pub terminal_owned : (b : BusState) (i : ℕ) (phase : Phase) (e : TerminalEvent)
    → slice_get b.terminals i ≡ Some phase
    → (h : Owned b) → ReceivesFitting h.owner e
    → AllByRecursion (IsNoOthers b (Some i)) (references (sent (terminal_step phase e).outs))
    → Owned (terminal_did b i (terminal_step phase e)).now
terminal_owned b i phase e there h fits own = record {
  owner = h.owner;
  place_of = noting h.place_of i (references (sent (terminal_step phase e).outs));
  seated =
      seated_after b h.owner h.place_of i (references (sent (terminal_step phase e).outs))
      (terminal_step phase e).now h.seated own
      (terminal_own h.owner h.place_of i phase e (h.seated i phase there) fits);
  flying = h.flying;
}

-- ---- Its TEI is known.

-- a received assignment is known
abbrev pub ReceivesKnown : List Bool → TerminalEvent → Type 0
ReceivesKnown held (event.Heard m ri) = IsKnown held (assigned_by m.kind m.ai)
ReceivesKnown held other = Unit {0}

abbrev pub KnownAfter : List Bool → TerminalStep → Type 0
KnownAfter held done = IsKnown held (tei_of done.now)

awaiting_known : (held : List Bool) (purpose : Purpose) (count ri : ℕ) (k : TeiKind) (its ai : ℕ)
    → IsKnown held (assigned_by k ai)
    → KnownAfter held (awaiting_receives purpose count ri k its ai)
awaiting_known held purpose count ri kind.Assigned its ai h =
    cond_both ((its == ri) && is_automatic ai) _ _ (KnownAfter held) (λ test. h) (λ test. tt)
awaiting_known held purpose count ri kind.Request its ai h = tt
awaiting_known held purpose count ri kind.Denied its ai h = tt
awaiting_known held purpose count ri kind.CheckRequest its ai h = tt
awaiting_known held purpose count ri kind.CheckResponse its ai h = tt
awaiting_known held purpose count ri kind.Remove its ai h = tt
awaiting_known held purpose count ri kind.Verify its ai h = tt

assigned_known : (held : List Bool) (by : Option ℕ) (tei : ℕ) (k : TeiKind) (its ai new : ℕ)
    → IsKnown held (Some tei) → KnownAfter held (assigned_receives by tei k its ai new)
assigned_known held by tei kind.Assigned its ai new h =
    cond_both ((ai == tei) && not (is_got_by by its)) _ _ (KnownAfter held) (λ test. tt) (λ test. h)
assigned_known held by tei kind.CheckRequest its ai new h =
    cond_both (names ai tei) _ _ (KnownAfter held) (λ test. h) (λ test. h)
assigned_known held by tei kind.Remove its ai new h =
    cond_both (names ai tei) _ _ (KnownAfter held) (λ test. tt) (λ test. h)
assigned_known held by tei kind.Request its ai new h = h
assigned_known held by tei kind.Denied its ai new h = h
assigned_known held by tei kind.CheckResponse its ai new h = h
assigned_known held by tei kind.Verify its ai new h = h

pub terminal_known : (held : List Bool) (t : Phase) (e : TerminalEvent) → IsKnown held (tei_of t)
    → ReceivesKnown held e → KnownAfter held (terminal_step t e)
terminal_known held Unassigned (event.Ask ri) h fits = tt
terminal_known held Unassigned (event.Want ri) h fits = tt
terminal_known held Unassigned (event.Heard m ri) h fits = tt
terminal_known held Unassigned (event.T202 ri) h fits = tt
terminal_known held Unassigned event.Leave h fits = tt
terminal_known held (Awaiting purpose count r) (event.Ask ri) h fits = tt
terminal_known held (Awaiting purpose count r) (event.Want ri) h fits = tt
terminal_known held (Awaiting purpose count r) (event.Heard m ri) h fits =
    awaiting_known held purpose count r m.kind m.ri m.ai fits
terminal_known held (Awaiting purpose count r) (event.T202 ri) h fits =
    cond_both (nat_lt count n202) _ _ (KnownAfter held) (λ test. tt) (λ test. tt)
terminal_known held (Awaiting purpose count r) event.Leave h fits = tt
terminal_known held (Assigned by tei) (event.Ask ri) h fits = h
terminal_known held (Assigned by tei) (event.Want ri) h fits = h
terminal_known held (Assigned by tei) (event.Heard m ri) h fits =
    assigned_known held by tei m.kind m.ri m.ai ri h
terminal_known held (Assigned by tei) (event.T202 ri) h fits = h
terminal_known held (Assigned by tei) event.Leave h fits = tt

-- ---- Its reference.

-- a terminal's reference differs from this one after a step, if it differed before and the step did
-- not request by it
abbrev pub IsAnotherAfter : ℕ → TerminalStep → Type 0
IsAnotherAfter r done =
    AllByRecursion (λ s. r ≢ s) (references (sent done.outs)) → reference_of done.now ≢ Some r

another : (r s : ℕ) → r ≢ s → Some s ≢ Some r
another r s other q = let e : r ≡ s = cc in other e

none_is_no : (r : ℕ) (o : Option ℕ) → o ≡ None → o ≢ Some r
none_is_no r o none q = absurd cc

awaiting_another : (r : ℕ) (purpose : Purpose) (count ri : ℕ) (k : TeiKind) (its ai : ℕ)
    → Some ri ≢ Some r → IsAnotherAfter r (awaiting_receives purpose count ri k its ai)
awaiting_another r purpose count ri kind.Assigned its ai h =
    cond_both ((its == ri) && is_automatic ai) _ _ (IsAnotherAfter r) (λ test. λ asked. h)
    (λ test. λ asked. h)
awaiting_another r purpose count ri kind.Request its ai h = λ asked. h
awaiting_another r purpose count ri kind.Denied its ai h = λ asked. h
awaiting_another r purpose count ri kind.CheckRequest its ai h = λ asked. h
awaiting_another r purpose count ri kind.CheckResponse its ai h = λ asked. h
awaiting_another r purpose count ri kind.Remove its ai h = λ asked. h
awaiting_another r purpose count ri kind.Verify its ai h = λ asked. h

assigned_another : (r : ℕ) (by : Option ℕ) (tei : ℕ) (k : TeiKind) (its ai new : ℕ) → by ≢ Some r
    → IsAnotherAfter r (assigned_receives by tei k its ai new)
assigned_another r by tei kind.Assigned its ai new h =
    cond_both ((ai == tei) && not (is_got_by by its)) _ _ (IsAnotherAfter r)
    (λ test. λ asked. none_is_no r None refl) (λ test. λ asked. h)
assigned_another r by tei kind.CheckRequest its ai new h =
    cond_both (names ai tei) _ _ (IsAnotherAfter r) (λ test. λ asked. h) (λ test. λ asked. h)
assigned_another r by tei kind.Remove its ai new h =
    cond_both (names ai tei) _ _ (IsAnotherAfter r) (λ test. λ asked. none_is_no r None refl)
    (λ test. λ asked. h)
assigned_another r by tei kind.Request its ai new h = λ asked. h
assigned_another r by tei kind.Denied its ai new h = λ asked. h
assigned_another r by tei kind.CheckResponse its ai new h = λ asked. h
assigned_another r by tei kind.Verify its ai new h = λ asked. h

terminal_another : (r : ℕ) (t : Phase) (e : TerminalEvent) → reference_of t ≢ Some r
    → IsAnotherAfter r (terminal_step t e)
terminal_another r Unassigned (event.Ask ri) h = λ asked. another r ri asked.0
terminal_another r Unassigned (event.Want ri) h = λ asked. another r ri asked.0
terminal_another r Unassigned (event.Heard m ri) h = λ asked. h
terminal_another r Unassigned (event.T202 ri) h = λ asked. h
terminal_another r Unassigned event.Leave h = λ asked. h
terminal_another r (Awaiting purpose count own) (event.Ask ri) h = λ asked. h
terminal_another r (Awaiting purpose count own) (event.Want ri) h = λ asked. h
terminal_another r (Awaiting purpose count own) (event.Heard m ri) h =
    awaiting_another r purpose count own m.kind m.ri m.ai h
terminal_another r (Awaiting purpose count own) (event.T202 ri) h =
    cond_both (nat_lt count n202) _ _ (IsAnotherAfter r) (λ test. λ asked. another r ri asked.0)
    (λ test. λ asked. none_is_no r None refl)
terminal_another r (Awaiting purpose count own) event.Leave h = λ asked. none_is_no r None refl
terminal_another r (Assigned by tei) (event.Ask ri) h = λ asked. h
terminal_another r (Assigned by tei) (event.Want ri) h = λ asked. h
terminal_another r (Assigned by tei) (event.Heard m ri) h =
    assigned_another r by tei m.kind m.ri m.ai ri h
terminal_another r (Assigned by tei) (event.T202 ri) h = λ asked. h
terminal_another r (Assigned by tei) event.Leave h = λ asked. none_is_no r None refl

-- a reference is no terminal's last one
abbrev pub IsNew : BusState → ℕ → Type 0
IsNew b r = (i : ℕ) (t : Phase) → slice_get b.terminals i ≡ Some t → reference_of t ≢ Some r

-- references of later requests are new after a step of the terminal at index i, if they were new
-- before it and differ from the references that it requested by
pub terminal_new : (b : BusState) (i : ℕ) (phase : Phase) (e : TerminalEvent) (rest : List ℕ)
    → slice_get b.terminals i ≡ Some phase
    → AllByRecursion (IsNew b) (references (sent (terminal_step phase e).outs) ++ rest)
    → Differ (references (sent (terminal_step phase e).outs) ++ rest)
    → AllByRecursion (IsNew (terminal_did b i (terminal_step phase e)).now) rest
terminal_new b i phase e rest there new differ =
    let rs : List ℕ = references (sent (terminal_step phase e).outs) in
    all_both (IsNew b) (λ r. AllByRecursion (λ s. r ≢ s) rs)
    (IsNew (terminal_did b i (terminal_step phase e)).now)
    (λ r before asked j t at. elim (get_after_set b.terminals i j (terminal_step phase e).now t at) [
      | inl h ↦ subst (λ p. reference_of p ≢ Some r) h.1
          (terminal_another r phase e (before i phase there) asked)
      | inr old ↦ before j t old
    ])
    rest (all_back (IsNew b) rs rest new) (differ_across rs rest differ)
