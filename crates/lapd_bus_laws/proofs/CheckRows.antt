-- The rows of the assigner, during a check of a TEI and at other times: the messages that they send
-- about the TEI.
use Rattle.std.proofs.Common.{◌≡◌, ◌⊎◌, inl, inr, ℕ, ◌==◌, ◌&&◌, nat_lt, List, [], ◌∷◌, Bool, true, false, if◌then◌else◌, Option, Some, None, refl, sym, ap, subst, ◌∙◌, arith}
use Rattle.std.specs.Prelude.{filter, ◌||◌}
use Rattle.std.specs.List.{list_any}
use Rattle.std.proofs.lemmas.Bool.Decides.{nat_tests}
use Rattle.lapd_timers.specs.declared.timer.Timer.TheVariants.{T201}
use Rattle.lapd_tei.specs.declared.assigner.AssignerEvent.{AssignerEvent}
use Rattle.lapd_tei.specs.declared.assigner.AssignerEvent.TheVariants as event
use Rattle.lapd_tei.specs.declared.check.Check.{Check}
use Rattle.lapd_tei.specs.declared.check.Round.{Round}
use Rattle.lapd_tei.specs.declared.check.Round.TheVariants as round
use Rattle.lapd_tei.specs.declared.check.Responses.{Responses}
use Rattle.lapd_tei.specs.declared.check.Responses.TheVariants as responses
use Rattle.lapd_tei.specs.declared.kind.TeiKind.{TeiKind}
use Rattle.lapd_tei.specs.declared.kind.TeiKind.TheVariants as kind
use Rattle.lapd_tei.specs.declared.message.TeiMessage.{TeiMessage}
use Rattle.lapd_tei.specs.declared.out.TeiOut.TheVariants.{Stop}
use Rattle.lapd_tei.specs.Assigner.{AssignerState, AssignerStep, stays, serves, least_free, checking, begins_check, one_more, counts_response, round_ends, timer_ends, removal, removes_unchecked, removes_one, removes, freed_by_check, assigner_receives, assigner_step, checked}
use Rattle.lapd_tei.specs.Message.{group_tei, kind_number, permits}
use Rattle.lapd_tei.specs.Out.{sent, assigned, check_request, remove}
use Rattle.lapd_bus_laws.specs.Healing.{is_about}
use Rattle.lapd_bus_laws.proofs.Carried.{permitted}

equal_of : (x y : ℕ) → (x == y) ≡ true → x ≡ y
equal_of x y h = grind (arith, nat_tests, h)

abbrev pub messages_of : AssignerStep → List TeiMessage
messages_of step = filter permitted (sent step.outs)

module _ (tei : ℕ) where
  -- no assignment of the TEI is among the messages
  abbrev pub AssignsNone : List TeiMessage → Type 0
  AssignsNone ms = list_any (is_about kind.Assigned tei) ms ≡ false

  -- no message assigns the TEI, or one is sent and does
  abbrev pub AssignsOnce : AssignerStep → Type 0
  AssignsOnce step = AssignsNone (messages_of step)
      ⊎ ((ri : ℕ) × (messages_of step ≡ assigned ri tei ∷ []))

  either : (P : AssignerStep → Type 0) (test : Bool) (x y : AssignerStep)
      → (test ≡ true → P x) → (test ≡ false → P y) → P (if test then x else y)
  either P true x y hx hy = hx refl
  either P false x y hx hy = hy refl

  serving : (a : AssignerState) (ri : ℕ) (free : Option ℕ) → AssignsOnce (serves ri free a)
  serving a ri None = inl refl
  serving a ri (Some other) = by (permits kind.Assigned other) (other == tei) refl
    where
      by : (may same : Bool) → (other == tei) ≡ same
          → (list_any (is_about kind.Assigned tei)
          (if may then assigned ri other ∷ [] else []) ≡ false)
          ⊎ ((its : ℕ) × ((if may then assigned ri other ∷ [] else []) ≡ assigned its tei ∷ []))
      by false same is = inl refl
      by true true is = inr (
        ri,
        ap (λ (n : ℕ). assigned ri n ∷ []) (equal_of other tei is),
      )
      by true false is = inl (ap (λ (b : Bool). b || false) is)

  -- ---- Any step.

  beginning : (a : AssignerState) (other : ℕ) (check : Option Check)
      → AssignsNone (messages_of (begins_check other check a))
  beginning a other (Some check) = refl
  beginning a other None = either (λ step. AssignsNone (messages_of step)) (nat_lt other group_tei)
      _ _ (λ is. refl) (λ is. refl)

  counting : (a : AssignerState) (other : ℕ) (check : Option Check)
      → AssignsNone (messages_of (counts_response other check a))
  counting a other None = refl
  counting a other (Some check) = either (λ step. AssignsNone (messages_of step))
      (other == check.tei) _ _ (λ is. refl) (λ is. refl)

  removing_one : (a : AssignerState) (other : ℕ) (check : Option Check)
      → AssignsNone (messages_of (removes_one other check a))
  removing_one a other None = refl
  removing_one a other (Some check) = either (λ step. AssignsNone (messages_of step))
      (other == check.tei) _ _ (λ is. refl) (λ is. refl)

  removing : (a : AssignerState) (other : ℕ) (check : Option Check)
      → AssignsNone (messages_of (removes other check a))
  removing a other check = either (λ step. AssignsNone (messages_of step)) (nat_lt other group_tei)
      (removes_one other check a) (stays a) (λ is. removing_one a other check) (λ is. refl)

  ending : (a : AssignerState) (other : ℕ) (nth : Round) (count : Responses)
      → AssignsNone (messages_of (round_ends other nth count a))
  ending a other round.First responses.Nobody = refl
  ending a other round.Second responses.Nobody = refl
  ending a other round.First responses.One = refl
  ending a other round.Second responses.One = refl
  ending a other round.First responses.Several = refl
  ending a other round.Second responses.Several = refl

  timing : (a : AssignerState) (check : Option Check)
      → AssignsNone (messages_of (timer_ends check a))
  timing a None = refl
  timing a (Some check) = ending a check.tei check.round check.responses

  receiving : (a : AssignerState) (k : TeiKind) (ri ai : ℕ)
      → AssignsOnce (assigner_receives k ri ai a)
  receiving a kind.Request ri ai = serving a ri (least_free a.held)
  receiving a kind.CheckResponse ri ai = inl (counting a ai a.check)
  receiving a kind.Verify ri ai = inl (beginning a ai a.check)
  receiving a kind.Assigned ri ai = inl refl
  receiving a kind.Denied ri ai = inl refl
  receiving a kind.CheckRequest ri ai = inl refl
  receiving a kind.Remove ri ai = inl refl

  pub step_assigns_once : (a : AssignerState) (e : AssignerEvent)
      → AssignsOnce (assigner_step a e)
  step_assigns_once a (event.Heard m) = receiving a m.kind m.ri m.ai
  step_assigns_once a (event.Check other) = inl (beginning a other a.check)
  step_assigns_once a (event.Remove other) = inl (removing a other a.check)
  step_assigns_once a event.T201 = inl (timing a a.check)

  -- ---- A step during a check of the TEI.

  -- nothing changes for the check, and the TEI is not assigned
  pub record Continues (check : Option Check) (step : AssignerStep) : Type 0 where
    pub check_is : step.now.check ≡ check
    pub assigns : AssignsNone (messages_of step)

  abbrev pub Removes : AssignerStep → Type 0
  Removes step = messages_of step ≡ remove tei ∷ remove tei ∷ []

  abbrev pub ItsCheck : Round → Responses → Option Check
  ItsCheck nth count = Some (checking tei nth count)

  -- a response counts; or it is another message, and the check goes on; or the TEI is assigned
  pub record Counts (nth : Round) (count : Responses) (k : TeiKind) (ai : ℕ) (step : AssignerStep)
      : Type 0 where
    pub response : ((kind_number k == kind_number kind.CheckResponse) && (ai == tei)) ≡ true
    pub check_is : step.now.check ≡ ItsCheck nth (one_more count)
    pub messages : messages_of step ≡ []

  pub record GoesOn (nth : Round) (count : Responses) (k : TeiKind) (ai : ℕ) (step : AssignerStep)
      : Type 0 where
    pub other : ((kind_number k == kind_number kind.CheckResponse) && (ai == tei)) ≡ false
    pub check_is : step.now.check ≡ ItsCheck nth count
    pub assigns : AssignsNone (messages_of step)

  abbrev pub HeardRow : Round → Responses → TeiKind → ℕ → AssignerStep → Type 0
  HeardRow nth count k ai step = Counts nth count k ai step ⊎ (GoesOn nth count k ai step
      ⊎ ((ri : ℕ) × (messages_of step ≡ assigned ri tei ∷ [])))

  module _ (nth : Round) (count : Responses) where
    stays_so : (a : AssignerState) (k : TeiKind) (ai : ℕ) → a.check ≡ ItsCheck nth count
        → ((kind_number k == kind_number kind.CheckResponse) && (ai == tei)) ≡ false
        → HeardRow nth count k ai (stays a)
    stays_so a k ai is other = inr (inl (record { other = other; check_is = is; assigns = refl }))

    served_so : (a : AssignerState) (ri ai : ℕ) (free : Option ℕ) → a.check ≡ ItsCheck nth count
        → HeardRow nth count kind.Request ai (serves ri free a)
    served_so a ri ai free is = elim (serving a ri free) [
      | inl none ↦ inr (inl (record {
        other = refl;
        check_is = check_of free;
        assigns = none;
      }))
      | inr given ↦ inr (inr given)
    ]
      where
        check_of : (o : Option ℕ) → (serves ri o a).now.check ≡ ItsCheck nth count
        check_of None = is
        check_of (Some other) = is

    counted_so : (a : AssignerState) (ai : ℕ) (check : Option Check) → a.check ≡ check
        → check ≡ ItsCheck nth count
        → HeardRow nth count kind.CheckResponse ai (counts_response ai check a)
    counted_so a ai None own is = cc
    counted_so a ai (Some check) own is = subst (λ (o : Option Check).
        HeardRow nth count kind.CheckResponse ai (counts_response ai o a)) (sym is)
        (by (ai == tei) refl)
      where
        by : (test : Bool) → (ai == tei) ≡ test → HeardRow nth count kind.CheckResponse ai
            (if test then record {
              now = record { held = a.held; check = ItsCheck nth (one_more count) };
              outs = [];
            } else stays a)
        by true e = inl (record { response = e; check_is = refl; messages = refl })
        by false e = inr (inl (record { other = e; check_is = own ∙ is; assigns = refl }))

    verified_so : (a : AssignerState) (ai : ℕ) (check : Option Check) → a.check ≡ check
        → check ≡ ItsCheck nth count → HeardRow nth count kind.Verify ai (begins_check ai check a)
    verified_so a ai None own is = cc
    verified_so a ai (Some check) own is = stays_so a kind.Verify ai (own ∙ is) refl

    pub heard_row : (a : AssignerState) (k : TeiKind) (ri ai : ℕ) → a.check ≡ ItsCheck nth count
        → HeardRow nth count k ai (assigner_receives k ri ai a)
    heard_row a kind.Request ri ai is = served_so a ri ai (least_free a.held) is
    heard_row a kind.CheckResponse ri ai is = counted_so a ai a.check refl is
    heard_row a kind.Verify ri ai is = verified_so a ai a.check refl is
    heard_row a kind.Assigned ri ai is = stays_so a kind.Assigned ai is refl
    heard_row a kind.Denied ri ai is = stays_so a kind.Denied ai is refl
    heard_row a kind.CheckRequest ri ai is = stays_so a kind.CheckRequest ai is refl
    heard_row a kind.Remove ri ai is = stays_so a kind.Remove ai is refl

    -- a request of layer 3's management
    abbrev pub RequestedRow : AssignerStep → Type 0
    RequestedRow step = Continues (ItsCheck nth count) step ⊎ Removes step

    checks_no_other : (a : AssignerState) (other : ℕ) (check : Option Check) → a.check ≡ check
        → check ≡ ItsCheck nth count → RequestedRow (begins_check other check a)
    checks_no_other a other None own is = cc
    checks_no_other a other (Some check) own is =
        inl (record { check_is = own ∙ is; assigns = refl })

    removes_one_so : (a : AssignerState) (other : ℕ) (check : Option Check) → a.check ≡ check
        → check ≡ ItsCheck nth count → RequestedRow (removes_one other check a)
    removes_one_so a other None own is = cc
    removes_one_so a other (Some check) own is = subst (λ (o : Option Check).
        RequestedRow (removes_one other o a)) (sym is) (by (other == tei) refl)
      where
        by : (test : Bool) → (other == tei) ≡ test → RequestedRow
            (if test then freed_by_check other a (Stop T201 ∷ removal other)
            else removes_unchecked other a)
        by true e = inr (ap (λ (n : ℕ). remove n ∷ remove n ∷ []) (equal_of other tei e))
        by false e = inl (record { check_is = own ∙ is; assigns = refl })

    pub requested_check_row : (a : AssignerState) (other : ℕ) → a.check ≡ ItsCheck nth count
        → RequestedRow (assigner_step a (event.Check other))
    requested_check_row a other is = checks_no_other a other a.check refl is

    pub requested_removal_row : (a : AssignerState) (other : ℕ) → a.check ≡ ItsCheck nth count
        → RequestedRow (assigner_step a (event.Remove other))
    requested_removal_row a other is = either RequestedRow (nat_lt other group_tei)
        (removes_one other a.check a) (stays a) (λ may. removes_one_so a other a.check refl is)
        (λ not. inl (record { check_is = is; assigns = refl }))

  -- T201 expires
  pub record AsksAgain (step : AssignerStep) : Type 0 where
    pub check_is : step.now.check ≡ ItsCheck round.Second responses.Nobody
    pub messages : messages_of step ≡ check_request tei ∷ []

  abbrev pub ExpiredRow : Responses → AssignerStep → Type 0
  ExpiredRow responses.Nobody step = AsksAgain step ⊎ (messages_of step ≡ [])
  ExpiredRow responses.One step = messages_of step ≡ []
  ExpiredRow responses.Several step = Removes step

  round_so : (a : AssignerState) (nth : Round) (count : Responses)
      → ExpiredRow count (round_ends tei nth count a)
  round_so a round.First responses.Nobody = inl (record { check_is = refl; messages = refl })
  round_so a round.Second responses.Nobody = inr refl
  round_so a round.First responses.One = refl
  round_so a round.Second responses.One = refl
  round_so a round.First responses.Several = refl
  round_so a round.Second responses.Several = refl

  pub expired_row : (a : AssignerState) (nth : Round) (count : Responses)
      → a.check ≡ ItsCheck nth count → ExpiredRow count (assigner_step a event.T201)
  expired_row a nth count is = subst (λ (o : Option Check). ExpiredRow count (timer_ends o a))
      (sym is) (round_so a nth count)

  -- ---- The step that begins a check of the TEI.

  -- no check is in progress afterwards, or one of another TEI, or one of this has begun
  abbrev pub BeginsRow : AssignerStep → Type 0
  BeginsRow step = checked step.now.check ≡ Some tei
      → (step.now.check ≡ ItsCheck round.First responses.Nobody)
      × (messages_of step ≡ check_request tei ∷ [])

  none_checked : (a : AssignerState) (o : Option Check) → a.check ≡ o → o ≡ None
      → checked a.check ≡ Some tei → ⊥
  none_checked a o own is h = let no : None ≡ Some tei = ap checked (sym (own ∙ is)) ∙ h in cc

  some_equal : (x y : ℕ) → Some x ≡ Some y → x ≡ y
  some_equal x y h = cc

  begins_so : (a : AssignerState) (other : ℕ) (check : Option Check) → a.check ≡ check
      → check ≡ None → BeginsRow (begins_check other check a)
  begins_so a other (Some check) own is = cc
  begins_so a other None own is = either BeginsRow (nat_lt other group_tei) _ _
      (λ may h. (let same : other ≡ tei = some_equal other tei h in (
        ap (λ (n : ℕ). Some (checking n round.First responses.Nobody)) same,
        ap (λ (n : ℕ). check_request n ∷ []) same,
      ))) (λ not h. absurd (none_checked a None own is h))

  still_none : (a : AssignerState) (step : AssignerStep) → step.now.check ≡ a.check
      → a.check ≡ None → BeginsRow step
  still_none a step same is h = absurd (none_checked step.now step.now.check refl (same ∙ is) h)

  begins_receiving : (a : AssignerState) (k : TeiKind) (ri ai : ℕ) → a.check ≡ None
      → BeginsRow (assigner_receives k ri ai a)
  begins_receiving a kind.Request ri ai is = by (least_free a.held)
    where
      by : (o : Option ℕ) → BeginsRow (serves ri o a)
      by None = still_none a (serves ri None a) refl is
      by (Some other) = still_none a (serves ri (Some other) a) refl is
  begins_receiving a kind.CheckResponse ri ai is = by a.check refl is
    where
      by : (o : Option Check) → a.check ≡ o → o ≡ None → BeginsRow (counts_response ai o a)
      by None own none = still_none a (stays a) refl is
      by (Some check) own none = cc
  begins_receiving a kind.Verify ri ai is = begins_so a ai a.check refl is
  begins_receiving a kind.Assigned ri ai is = still_none a (stays a) refl is
  begins_receiving a kind.Denied ri ai is = still_none a (stays a) refl is
  begins_receiving a kind.CheckRequest ri ai is = still_none a (stays a) refl is
  begins_receiving a kind.Remove ri ai is = still_none a (stays a) refl is

  pub begins_row : (a : AssignerState) (e : AssignerEvent) → a.check ≡ None
      → BeginsRow (assigner_step a e)
  begins_row a (event.Heard m) is = begins_receiving a m.kind m.ri m.ai is
  begins_row a (event.Check other) is = begins_so a other a.check refl is
  begins_row a (event.Remove other) is = either BeginsRow (nat_lt other group_tei)
      (removes_one other a.check a) (stays a) (λ may. by a.check refl is)
      (λ not. still_none a (stays a) refl is)
    where
      by : (o : Option Check) → a.check ≡ o → o ≡ None → BeginsRow (removes_one other o a)
      by None own none = still_none a (removes_unchecked other a) refl is
      by (Some check) own none = cc
  begins_row a event.T201 is = by a.check refl is
    where
      by : (o : Option Check) → a.check ≡ o → o ≡ None → BeginsRow (timer_ends o a)
      by None own none = still_none a (stays a) refl is
      by (Some check) own none = cc
