-- The steps of the assigner preserve the invariants of the bus.
use Rattle.std.proofs.Common.{◌≡◌, ◌≢◌, ℕ, ◌+◌, ◌<◌, ◌≤◌, zero, suc, Bool, true, false, List, [], ◌∷◌, map, set, drop, length, get_or, slice_get, Option, Some, None, inl, inr, ◌⊎◌, refl, sym, ap, subst, ◌∙◌, arith}
use Rattle.std.proofs.Math.Numerals.{add-one}
use Rattle.std.proofs.lemmas.Bool.{cases_eq, cond_both}
use Rattle.std.proofs.lemmas.List.{get_or-set_same, get_or-set_other}
use Rattle.std.proofs.lemmas.Option.{slice_get_within, get_or_from_slice_get}
use Rattle.std.proofs.lemmas.List.Elements.{All-nil, All-cons, All-append, All-map, All-weaker, All-get_or}
use Rattle.std.specs.Prelude.{◌==◌, nat_lt, if◌then◌else◌}
use Rattle.std.specs.List.{All, AllByRecursion}
use Rattle.lapd_tei.specs.declared.message.TeiMessage.{TeiMessage}
use Rattle.lapd_tei.specs.declared.kind.TeiKind.{TeiKind}
use Rattle.lapd_tei.specs.declared.kind.TeiKind.TheVariants as kind
use Rattle.lapd_tei.specs.declared.phase.Phase.{Phase}
use Rattle.lapd_tei.specs.declared.phase.Phase.TheVariants.{Unassigned, Awaiting, Assigned}
use Rattle.lapd_tei.specs.declared.check.Check.{Check}
use Rattle.lapd_tei.specs.declared.check.Round.{Round}
use Rattle.lapd_tei.specs.declared.check.Round.TheVariants as round
use Rattle.lapd_tei.specs.declared.check.Responses.{Responses}
use Rattle.lapd_tei.specs.declared.check.Responses.TheVariants as responses
use Rattle.lapd_tei.specs.declared.assigner.AssignerEvent.{AssignerEvent}
use Rattle.lapd_tei.specs.declared.assigner.AssignerEvent.TheVariants as event
use Rattle.lapd_tei.specs.Message.{group_tei}
use Rattle.lapd_tei.specs.Out.{sent, assigned, denied, check_request, remove}
use Rattle.lapd_tei.specs.Terminal.{tei_of}
use Rattle.lapd_tei.specs.Assigner.{AssignerState, AssignerStep, assigner_step, assigner_receives, serves, begins_check, counts_response, removes_one, removes, timer_ends, round_ends, first_free, least_free, is_held, stays}
use Rattle.lapd_tei.specs.Bus.{BusState, broadcast, assigner_did}
use Rattle.lapd_tei.specs.Single.{freed, assigned_by, IsNobodys}
use Rattle.lapd_tei.specs.Service.{IsKnown, KnowsInUse}
use Rattle.lapd_tei.proofs.PreservedByBus.{Owner, Reference, Sits, FitsKind, Fits, Owned, all_each, pick_yes, pick_no}

-- ---- The least free TEI is not held.

at_front : (held : List Bool) (n : ℕ) (b : Bool) (rest : List Bool) → drop n held ≡ b ∷ rest
    → (n < length held) × (get_or held n false ≡ b) × (drop (suc n) held ≡ rest)
at_front [] zero b rest q = absurd cc
at_front [] (suc n) b rest q = absurd cc
at_front (x ∷ held) zero b rest q = (omega arith, cc, cc)
at_front (x ∷ held) (suc n) b rest q =
    let k : (n < length held) × (get_or held n false ≡ b) × (drop (suc n) held ≡ rest) =
    at_front held n b rest q in
    (omega (arith, k.0), k.1, k.2)

-- this TEI is not held, and is at least `least`
pub record IsFree (held : List Bool) (least tei : ℕ) : Type 0 where
  pub within : tei < length held
  pub free : is_held held tei ≡ false
  pub from : least ≤ tei

pub free_from : (held : List Bool) (n : ℕ) (rest : List Bool) (tei : ℕ) → drop n held ≡ rest
    → first_free n rest ≡ Some tei → IsFree held n tei
free_from held n [] tei q found = absurd cc
free_from held n (true ∷ rest) tei q found =
    let later : IsFree held (n + 1) tei =
    free_from held (n + 1) rest tei
    (subst (λ m. drop m held ≡ rest) (sym (add-one n)) (at_front held n true rest q).2)
    found in
    record { within = later.within; free = later.free; from = omega (arith, later.from) }
free_from held n (false ∷ rest) tei q found =
    let k : (n < length held) × (get_or held n false ≡ false) × (drop (suc n) held ≡ rest) =
    at_front held n false rest q in
    let e : n ≡ tei = cc in
    record {
      within = subst (λ m. m < length held) e k.0;
      free = subst (λ m. is_held held m ≡ false) e k.1;
      from = omega (arith, e);
    }

-- ---- The rows of the assigner.

abbrev pub AssignsNothing : TeiMessage → Type 0
AssignsNothing m = assigned_by m.kind m.ai ≡ None

-- a step that assigns no TEI; it gives up only the TEIs that it frees
pub record AssignsNone (a : AssignerState) (done : AssignerStep) : Type 0 where
  pub stays : (n : ℕ) → is_held a.held n ≡ true → AllByRecursion (λ k. n ≢ k) (freed done.outs)
      → is_held done.now.held n ≡ true
  pub none : All AssignsNothing (sent done.outs)

-- a step that assigns a TEI, which was not held
pub record AssignsOne (a : AssignerState) (done : AssignerStep) : Type 0 where
  pub ri : ℕ
  pub tei : ℕ
  pub free : IsFree a.held 64 tei
  pub is : done ≡ serves ri (Some tei) a

abbrev pub Assigns : AssignerState → AssignerStep → Type 0
Assigns a done = AssignsNone a done ⊎ AssignsOne a done

nothing_sent : All AssignsNothing []
nothing_sent = All-nil AssignsNothing

one_sent : (m : TeiMessage) → AssignsNothing m → All AssignsNothing (m ∷ [])
one_sent m none = All-cons AssignsNothing m [] none nothing_sent

held_but_one : (held : List Bool) (tei n : ℕ) → is_held held n ≡ true → n ≢ tei
    → is_held (set held tei false) n ≡ true
held_but_one held tei n is other = get_or-set_other held tei n false false other ∙ is

held_and_one : (held : List Bool) (tei n : ℕ) → tei < length held → is_held held n ≡ true
    → is_held (set held tei true) n ≡ true
held_and_one held tei n within is = elim (cases_eq n tei) [
  | inl same ↦ ap (is_held (set held tei true)) same ∙ get_or-set_same held tei true false within
  | inr other ↦ get_or-set_other held tei n true false other ∙ is
]

stayed : (a : AssignerState) → AssignsNone a (stays a)
stayed a = record { stays = λ n is unfreed. is; none = nothing_sent }

begun : (a : AssignerState) (tei : ℕ) (check : Option Check)
    → AssignsNone a (begins_check tei check a)
begun a tei None = cond_both (nat_lt tei group_tei) _ _ (AssignsNone a)
    (λ test. record { stays = λ n is unfreed. is; none = one_sent (check_request tei) refl })
    (λ test. stayed a)
begun a tei (Some check) = stayed a

responded : (a : AssignerState) (tei : ℕ) (check : Option Check)
    → AssignsNone a (counts_response tei check a)
responded a tei None = stayed a
responded a tei (Some check) = cond_both (tei == check.tei) _ _ (AssignsNone a)
    (λ test. record { stays = λ n is unfreed. is; none = nothing_sent })
    (λ test. stayed a)

ended : (a : AssignerState) (tei : ℕ) (nth : Round) (count : Responses)
    → AssignsNone a (round_ends tei nth count a)
ended a tei round.First responses.Nobody =
    record { stays = λ n is unfreed. is; none = one_sent (check_request tei) refl }
ended a tei round.Second responses.Nobody =
    record { stays = λ n is unfreed. held_but_one a.held tei n is unfreed.0; none = nothing_sent }
ended a tei round.First responses.One = record { stays = λ n is unfreed. is; none = nothing_sent }
ended a tei round.Second responses.One = record { stays = λ n is unfreed. is; none = nothing_sent }
ended a tei round.First responses.Several = record {
  stays = λ n
      is unfreed. held_but_one a.held tei n is unfreed.0;
  none =
      All-cons AssignsNothing (remove tei) (remove tei ∷ []) refl (one_sent (remove tei) refl);
}
ended a tei round.Second responses.Several = record {
  stays = λ n
      is unfreed. held_but_one a.held tei n is unfreed.0;
  none =
      All-cons AssignsNothing (remove tei) (remove tei ∷ []) refl (one_sent (remove tei) refl);
}

twice_removed : (tei : ℕ) → All AssignsNothing (remove tei ∷ remove tei ∷ [])
twice_removed tei =
    All-cons AssignsNothing (remove tei) (remove tei ∷ []) refl (one_sent (remove tei) refl)

removed_one : (a : AssignerState) (tei : ℕ) (check : Option Check)
    → AssignsNone a (removes_one tei check a)
removed_one a tei None = record {
  stays = λ n is unfreed. held_but_one a.held tei n is unfreed.0;
  none = twice_removed tei;
}
removed_one a tei (Some check) = cond_both (tei == check.tei) _ _ (AssignsNone a)
    (λ test. record {
      stays = λ n is unfreed. held_but_one a.held tei n is unfreed.0;
      none = twice_removed tei;
    })
    (λ test. record {
      stays = λ n is unfreed. held_but_one a.held tei n is unfreed.0;
      none = twice_removed tei;
    })

removed : (a : AssignerState) (tei : ℕ) (check : Option Check) → AssignsNone a (removes tei check a)
removed a tei check =
    cond_both (nat_lt tei group_tei) _ _ (AssignsNone a) (λ test. removed_one a tei check)
    (λ test. stayed a)

timed : (a : AssignerState) (check : Option Check) → AssignsNone a (timer_ends check a)
timed a None = stayed a
timed a (Some check) = ended a check.tei check.round check.responses

requested : (a : AssignerState) (ri : ℕ) (free : Option ℕ) → least_free a.held ≡ free
    → Assigns a (serves ri free a)
requested a ri None q =
    inl (record { stays = λ n is unfreed. is; none = one_sent (denied ri) refl })
requested a ri (Some tei) q =
    inr (record {
      ri = ri;
      tei = tei;
      free = free_from a.held 64 (drop 64 a.held) tei refl q;
      is = refl;
    })

reception : (a : AssignerState) (k : TeiKind) (ri ai : ℕ) → Assigns a (assigner_receives k ri ai a)
reception a kind.Request ri ai = requested a ri (least_free a.held) refl
reception a kind.CheckResponse ri ai = inl (responded a ai a.check)
reception a kind.Verify ri ai = inl (begun a ai a.check)
reception a kind.Assigned ri ai = inl (stayed a)
reception a kind.Denied ri ai = inl (stayed a)
reception a kind.CheckRequest ri ai = inl (stayed a)
reception a kind.Remove ri ai = inl (stayed a)

pub assigner_assigns : (a : AssignerState) (e : AssignerEvent) → Assigns a (assigner_step a e)
assigner_assigns a (event.Heard m) = reception a m.kind m.ri m.ai
assigner_assigns a (event.Check tei) = inl (begun a tei a.check)
assigner_assigns a (event.Remove tei) = inl (removed a tei a.check)
assigner_assigns a event.T201 = inl (timed a a.check)

-- ---- A held TEI stays held until it is freed.

abbrev StaysHeld : AssignerState → AssignerStep → Type 0
StaysHeld a done =
    (n : ℕ) → is_held a.held n ≡ true → AllByRecursion (λ k. n ≢ k) (freed done.outs)
    → is_held done.now.held n ≡ true

pub stays_held : (a : AssignerState) (done : AssignerStep) → Assigns a done → StaysHeld a done
stays_held a done either = elim either [
  | inl h ↦ h.stays
  | inr h ↦ subst (StaysHeld a) (sym h.is)
      (λ n is unfreed. held_and_one a.held h.tei n h.free.within is)
]

-- an element of a list has the property that all elements have
pub all_at : {X : Type 0} (P : X → Type 0) (xs : List X) (i : ℕ) (x : X) → All P xs
    → slice_get xs i ≡ Some x → P x
all_at P xs i x all there =
    subst P (get_or_from_slice_get xs i x x there)
    (All-get_or P xs i x (slice_get_within xs i x there) all)

still_known : (held later : List Bool) (o : Option ℕ) → IsKnown held o
    → ((n : ℕ) → o ≡ Some n → is_held held n ≡ true → is_held later n ≡ true) → IsKnown later o
still_known held later None h f = tt
still_known held later (Some n) h f = λ from. f n refl (h from)

-- an assignment that is sent is known, if there is one
sends_known : (a : AssignerState) (done : AssignerStep) → Assigns a done
    → All (λ m. IsKnown done.now.held (assigned_by m.kind m.ai)) (sent done.outs)
sends_known a done either = elim either [
  | inl h ↦ All-weaker AssignsNothing (λ m. IsKnown done.now.held (assigned_by m.kind m.ai))
      (λ m none. subst (IsKnown done.now.held) (sym none) tt) (sent done.outs) h.none
  | inr h ↦ subst (λ d. All (λ m. IsKnown d.now.held (assigned_by m.kind m.ai)) (sent d.outs))
      (sym h.is)
      (All-cons (λ m. IsKnown (set a.held h.tei true) (assigned_by m.kind m.ai))
      (assigned h.ri h.tei) []
      (λ from. get_or-set_same a.held h.tei true false h.free.within)
      (All-nil (λ m. IsKnown (set a.held h.tei true) (assigned_by m.kind m.ai))))
]

pub assigner_known : (b : BusState) (done : AssignerStep) → Assigns b.assigner done
    → AllByRecursion (IsNobodys b) (freed done.outs) → KnowsInUse b.assigner.held b
    → KnowsInUse done.now.held (assigner_did b done).now
assigner_known b done assigns nobodys h = record {
  terminals =
      λ k d within. still_known b.assigner.held done.now.held (tei_of (get_or b.terminals k d))
      (h.terminals k d within)
      (λ n q is. stays_held b.assigner done assigns n is
      (all_each (IsNobodys b) (λ m. n ≢ m) (λ m free e. free.unheld k d within (q ∙ ap Some e))
      (freed done.outs) nobodys));
  assignments =
      All-append (λ f. IsKnown done.now.held (assigned_by f.message.kind f.message.ai)) b.down
      (map (broadcast (length b.terminals)) (sent done.outs))
      (λ k d
      within. still_known b.assigner.held done.now.held
      (assigned_by (get_or b.down k d).message.kind (get_or b.down k d).message.ai)
      (h.assignments k d within)
      (λ n q is. stays_held b.assigner done assigns n is
      (all_each (IsNobodys b) (λ m. n ≢ m) (λ m free e. free.unassigned k d within (q ∙ ap Some e))
      (freed done.outs) nobodys)))
      (All-map (λ f. IsKnown done.now.held (assigned_by f.message.kind f.message.ai))
      (broadcast (length b.terminals)) (sent done.outs)
      (sends_known b.assigner done assigns));
}

-- ---- A change of owners.

-- the same bus with other owners
pub reseated : (owner later : ℕ → Option Owner) (place_of : ℕ → Option ℕ) (i : ℕ) (t : Phase)
    → ((n : ℕ) → tei_of t ≡ Some n → later n ≡ owner n) → Sits owner place_of i t
    → Sits later place_of i t
reseated owner later place_of i Unassigned same h = h
reseated owner later place_of i (Awaiting purpose count r) same h = h
reseated owner later place_of i (Assigned None n) same h = same n refl ∙ h
reseated owner later place_of i (Assigned (Some r) n) same h = (same n refl ∙ h.0, h.1)

pub refits : (owner later : ℕ → Option Owner) (k : TeiKind) (ri ai : ℕ)
    → ((n : ℕ) → assigned_by k ai ≡ Some n → later n ≡ owner n) → FitsKind owner k ri ai
    → FitsKind later k ri ai
refits owner later kind.Assigned ri ai same h = same ai refl ∙ h
refits owner later kind.Request ri ai same h = h
refits owner later kind.Denied ri ai same h = h
refits owner later kind.CheckRequest ri ai same h = h
refits owner later kind.CheckResponse ri ai same h = h
refits owner later kind.Remove ri ai same h = h
refits owner later kind.Verify ri ai same h = h

none_fits : (owner : ℕ → Option Owner) (k : TeiKind) (ri ai : ℕ) → assigned_by k ai ≡ None
    → FitsKind owner k ri ai
none_fits owner kind.Assigned ri ai none = absurd cc
none_fits owner kind.Request ri ai none = tt
none_fits owner kind.Denied ri ai none = tt
none_fits owner kind.CheckRequest ri ai none = tt
none_fits owner kind.CheckResponse ri ai none = tt
none_fits owner kind.Remove ri ai none = tt
none_fits owner kind.Verify ri ai none = tt

-- changes the owner of a TEI to this one
abbrev pub owned_by : (ℕ → Option Owner) → ℕ → Owner → ℕ → Option Owner
owned_by owner tei o n = if n == tei then Some o else owner n

in_use_is_held : (held : List Bool) (o : Option ℕ) (n tei : ℕ) → IsKnown held o → o ≡ Some n
    → 64 ≤ tei → is_held held tei ≡ false → n ≢ tei
in_use_is_held held None n tei known q from free e = absurd cc
in_use_is_held held (Some m) n tei known q from free e =
    let same : m ≡ tei = cc in
    let bad : true ≡ false =
    sym (subst (λ k. 64 ≤ k → is_held held k ≡ true) same known from) ∙ free in
    absurd cc

-- a TEI without an owner is assigned
one_owned : (b : BusState) (ri tei : ℕ) → IsFree b.assigner.held 64 tei
    → KnowsInUse b.assigner.held b → Owned b
    → Owned (assigner_did b (serves ri (Some tei) b.assigner)).now
one_owned b ri tei free known h =
    let later : ℕ → Option Owner = owned_by h.owner tei (Reference ri) in
    record {
      owner = later;
      place_of = h.place_of;
      seated = λ i t there. reseated h.owner later h.place_of i t
          (λ n q. pick_no n tei (Some (Reference ri)) (h.owner n)
          (in_use_is_held b.assigner.held (tei_of t) n
          tei (all_at (λ u. IsKnown b.assigner.held (tei_of u)) b.terminals i t
          known.terminals there) q free.from free.free))
          (h.seated i t there);
      flying =
          All-append (λ f. Fits later f.message) b.down
          (map (broadcast (length b.terminals)) (assigned ri tei ∷ []))
          (λ k d
          within. refits h.owner later (get_or b.down k d).message.kind
          (get_or b.down k d).message.ri (get_or b.down k d).message.ai
          (λ n q. pick_no n tei (Some (Reference ri)) (h.owner n)
          (in_use_is_held b.assigner.held
          (assigned_by (get_or b.down k d).message.kind (get_or b.down k d).message.ai) n
          tei (known.assignments k d within) q free.from free.free))
          (h.flying k d within))
          (All-map (λ f. Fits later f.message) (broadcast (length b.terminals))
          (assigned ri tei ∷ [])
          (All-cons (Fits later) (assigned ri tei) []
          (pick_yes tei tei (Some (Reference ri)) (h.owner tei) refl)
          (All-nil (Fits later))));
    }

none_owned : (b : BusState) (done : AssignerStep) → All AssignsNothing (sent done.outs) → Owned b
    → Owned (assigner_did b done).now
none_owned b done none h = record {
  owner = h.owner;
  place_of = h.place_of;
  seated = h.seated;
  flying =
      All-append (λ f. Fits h.owner f.message) b.down
      (map (broadcast (length b.terminals)) (sent done.outs)) h.flying
      (All-map (λ f. Fits h.owner f.message) (broadcast (length b.terminals)) (sent done.outs)
      (All-weaker AssignsNothing (Fits h.owner) (λ m is. none_fits h.owner m.kind m.ri m.ai is)
      (sent done.outs) none));
}

pub assigner_owned : (b : BusState) (done : AssignerStep) → Assigns b.assigner done
    → KnowsInUse b.assigner.held b → Owned b → Owned (assigner_did b done).now
assigner_owned b done either known h = elim either [
  | inl none ↦ none_owned b done none.none h
  | inr one ↦ subst (λ d. Owned (assigner_did b d).now) (sym one.is)
      (one_owned b one.ri one.tei one.free known h)
]
