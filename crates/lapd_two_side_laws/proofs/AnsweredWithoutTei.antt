-- A user side without a TEI, from its creation, answers each request in time.
use Rattle.std.proofs.Common.{◌≡◌, ◌∷◌, ◌++◌, inl, inr, ℕ, zero, suc, ◌+◌, ◌-◌, ◌*◌, ◌≤◌, ◌<◌, Bool, true, false, if◌then◌else◌, List, [], Option, Some, None, Result, Ok, Err, refl, sym, ap, subst, ◌∙◌, arith}
use Rattle.std.specs.Prelude.{is_some}
use Rattle.std.specs.List.{All, list_any}
use Rattle.rand_pcg.specs.Lcg.{Lcg}
use Rattle.lapd_timers.specs.declared.timer.Timer.TheVariants.{T202}
use Rattle.lapd_timers.specs.Due.{deadline_of, deadline_from}
use Rattle.lapd_timers.specs.Durations.{Lengths}
use Rattle.lapd_frame.specs.declared.Sapi.{Sapi}
use Rattle.lapd_frame.specs.declared.Sapi.TheVariants as sapi
use Rattle.lapd_frame.specs.declared.Side.TheVariants as side
use Rattle.lapd_link_definition.specs.Input.{Input}
use Rattle.lapd_tei.specs.declared.phase.Phase.{Phase}
use Rattle.lapd_tei.specs.declared.phase.Phase.TheVariants.{Unassigned, Awaiting, Assigned}
use Rattle.lapd_tei.specs.declared.phase.Purpose.TheVariants as reason
use Rattle.lapd_tei.specs.declared.terminal.TerminalEvent.TheVariants as event
use Rattle.lapd_tei.specs.Terminal.{n202, terminal_step, tei_of, is_awaiting}
use Rattle.lapd_table.specs.declared.link_id.LinkId.{LinkId}
use Rattle.lapd_sides_links.specs.declared.config.Config.{Config}
use Rattle.lapd_sides_links.specs.declared.side_fault.SideKind.{SideKind}
use Rattle.lapd_sides_links.specs.declared.side_fault.SideKind.TheVariants.{NoLink}
use Rattle.lapd_sides_links.specs.declared.primitive.What.TheVariants as what
use Rattle.lapd_sides_links.specs.Effects.{no_effects}
use Rattle.lapd_sides_links.specs.Links.{Reaction, of_sapi, is_served, parameters_for}
use Rattle.lapd_sides.specs.Management.{manages}
use Rattle.lapd_sides.specs.SideState.{primitive_of_group}
use Rattle.lapd_sides.specs.User.{User, PendingEstablishments, is_pending, with_pending, next_reference, assigned, terminal_acts, with_tei_or, wants, forgets, user_requested}
use Rattle.lapd_two_side_laws.specs.Answers.{asks, answers_for, HasAnswerFor, KeepsRequest, IsBy, most_periods, AreExpiredInTime, IsAnsweredFor, after_request, Throughout, IsPunctual, t202_expiries, expiries_of}
use Rattle.lapd_two_side_laws.specs.EndAnswers.{most_expiries, Asked, Establishment, Withdrawal, Clearing, request_of}
use Rattle.lapd_two_side_laws.specs.ExactTimers.{SideStep, stepped, stepped_by_all, new_view}
use Rattle.lapd_side_events.specs.Interface.{user_behaviour}
use Rattle.lapd_two_side_laws.specs.ManagementTimers.{HasTimerOfTerminal}
use Rattle.lapd_two_side_laws.specs.NewLinks.{user_after}
use Rattle.lapd_side_events.specs.SideView.{Behaviour, SideView, Ask, or_unmoved}
use Rattle.lapd_two_side_laws.proofs.AnsweredSides.{Debt}
use Rattle.lapd_two_side_laws.proofs.EachLink.{HasLinks}
use Rattle.lapd_two_side_laws.proofs.EndAnswers.{some_left}
use Rattle.lapd_two_side_laws.proofs.Managed.{any_first, any_second}
use Rattle.lapd_two_side_laws.proofs.TerminalOwn.{Owns}
use Rattle.lapd_two_side_laws.specs.Answers.{requests_release}
use Rattle.lapd_sides_links.specs.Links.{Linked}
use Rattle.lapd_two_side_laws.proofs.LinkParts.{any_more, any_behind}
use Rattle.lapd_two_side_laws.proofs.ManagementSides.{user_timer}
use Rattle.lapd_two_side_laws.proofs.OwnSides.{AreOwn, Has, PreservesOwned, user_preserves, user_steps_own}
use Rattle.lapd_two_side_laws.proofs.UsualTerminal.{IsCounted, HasUsual, user_has_usual}
use Rattle.lapd_two_side_laws.proofs.WaitingRuns.{Outcome, still_has, indebted_goes, all_wait, answered_by, ready_again}
use Rattle.lapd_two_side_laws.proofs.WaitingUser.{Establishes, IsWaiting}

-- each punctual event, by the clock
with_clock : (clock : Bool) (lateness : ℕ) (S : Type 0) (w : Behaviour S) (xs : List SideStep)
    (v : SideView S) → Throughout w (IsPunctual lateness w) xs v
    → Throughout w (λ event s. clock ≡ true → IsPunctual lateness w event s) xs v
with_clock clock lateness S w [] v h = tt
with_clock clock lateness S w (x ∷ xs) v h =
    (λ ticks. h.0, with_clock clock lateness S w xs (stepped w x v) h.1)

-- without the clock, each event is punctual enough
without_clock : (S : Type 0) (w : Behaviour S) (xs : List SideStep) (v : SideView S)
    → Throughout w (λ event s. false ≡ true → IsPunctual 0 w event s) xs v
without_clock S w [] v = tt
without_clock S w (x ∷ xs) v = (λ ticks. cc, without_clock S w xs (stepped w x v))

one_by_one : (S : Type 0) (w : Behaviour S) (first second : List SideStep) (v : SideView S)
    → stepped_by_all w (first ++ second) v ≡ stepped_by_all w second (stepped_by_all w first v)
one_by_one S w [] second v = refl
one_by_one S w (x ∷ first) second v = one_by_one S w first second (stepped w x v)

of_owner : (phase : Phase) (tei : ℕ) → Owns phase tei → tei_of phase ≡ Some tei
of_owner (Assigned by own) tei h = ap (λ t. Some t) h
of_owner Unassigned tei h = absurd h
of_owner (Awaiting purpose count ri) tei h = absurd h

has_links : (config : Config) (at : Sapi) → is_served config at ≡ true → HasLinks at
has_links config sapi.Call is = tt
has_links config sapi.Packet is = tt
has_links config sapi.Management is = cc

now_kept : (at : Sapi) (pending : PendingEstablishments) → HasLinks at
    → is_pending at (with_pending at true pending) ≡ true
now_kept sapi.Call pending has = refl
now_kept sapi.Packet pending has = refl
now_kept sapi.Management pending has = absurd has

confirmed_for : (at : Sapi)
    → list_any (answers_for Clearing at) (primitive_of_group at what.ReleaseConfirm) ≡ true
confirmed_for sapi.Call = refl
confirmed_for sapi.Packet = refl
confirmed_for sapi.Management = refl

there : (o : Option ℕ) → is_some o ≡ true → (deadline : ℕ) × (o ≡ Some deadline)
there (Some deadline) h = (deadline, refl)
there None h = cc

module _ (config : Config) (id : LinkId) (asked : Asked) (clock : Bool) (lateness now : ℕ)
    (s : User) (usual : HasUsual config clock now s)
    (none : tei_of s.management.terminal ≡ None) where
  abbrev Limit202 : ℕ
  Limit202 = now + n202 * (config.durations.t202 + lateness)

  abbrev Wanting : User
  Wanting = record s {
    management = record s.management
        { pending = with_pending id.sapi true s.management.pending };
  }

  abbrev Wanted : Reaction User
  Wanted = terminal_acts config now event.Want Wanting

  abbrev Waits : User → Type 0
  Waits x =
      IsWaiting config id.sapi clock lateness Limit202 n202 0 x.management.terminal
      x.management.pending x.served.timers

  -- one period of T202 and those that are left, each ended late; there are n202 = 3 at most
  in_limit : (d count : ℕ) → d ≤ now + config.durations.t202 → 1 ≤ count
      → d + lateness + (n202 - count) * (config.durations.t202 + lateness) ≤ Limit202
  in_limit d zero h least = absurd (omega (arith, least))
  in_limit d (suc zero) h least = omega (arith, h)
  in_limit d (suc (suc zero)) h least = omega (arith, h)
  in_limit d (suc (suc (suc count))) h least =
      let left : n202 - suc (suc (suc count)) ≡ 0 = omega arith in
      rw left (omega (arith, h))

  starts_waiting : (phase : Phase) → s.management.terminal ≡ phase → tei_of phase ≡ None
      → is_served config id.sapi ≡ true
      → Waits (assigned config now
      (terminal_step phase (event.Want (next_reference s.management.random))) Wanting).after
  unfolding manages
  starts_waiting Unassigned is no_tei served =
      let plain = usual.usual.plain in
      let length_is : s.served.timers.durations.t202 ≡ config.durations.t202 =
      ap (λ (x : Lengths). x.t202) plain.durations in
      record {
        purpose = reason.Establishment;
        count = 1;
        ri = next_reference s.management.random;
        phase = refl;
        kept = now_kept id.sapi s.management.pending (has_links config id.sapi served);
        served = served;
        durations = plain.durations;
        deadline = deadline_from now s.served.timers.durations.t202;
        runs = refl;
        few = omega arith;
        in_time = λ ticks. record {
          early = omega arith;
          late = omega arith;
          bounded = in_limit (deadline_from now s.served.timers.durations.t202) 1
              (omega (arith, length_is)) (omega arith);
        };
      }
  starts_waiting (Awaiting purpose count ri) is no_tei served =
      let plain = usual.usual.plain in
      let on : is_some (deadline_of T202 s.served.timers) ≡ true =
      usual.timer T202 ∙ ap is_awaiting is in
      let t = there (deadline_of T202 s.served.timers) on in
      let counted : 1 ≤ count = subst IsCounted is usual.usual.counted in
      record {
        purpose = reason.Establishment;
        count = count;
        ri = ri;
        phase = refl;
        kept = now_kept id.sapi s.management.pending (has_links config id.sapi served);
        served = served;
        durations = plain.durations;
        deadline = t.0;
        runs = t.1;
        few = omega (arith, counted);
        in_time = λ ticks.
            let early = plain.early ticks t.0 t.1 in
            record {
              early = omega arith;
              late = early.1;
              bounded = in_limit t.0 count early.0 counted;
            };
      }
  starts_waiting (Assigned by tei) is no_tei served = cc

  wanted_waits : is_served config id.sapi ≡ true → Waits Wanted.after
  unfolding terminal_acts
  wanted_waits served = starts_waiting s.management.terminal refl none served

  -- an accepted request: kept, or forgotten and confirmed
  wants_by : (test : Bool) (a : Reaction User) → is_served config id.sapi ≡ test
      → (if test then Ok Wanted else Err NoLink) ≡ Ok a
      → (is_served config id.sapi ≡ true) × (Wanted ≡ a)
  wants_by true a is done = (is, cc)
  wants_by false a is done = cc

  without : (phase : Phase) (input : Input) (otherwise : Result (Reaction User) SideKind)
      → tei_of phase ≡ None
      → with_tei_or now phase id.sapi input [] otherwise s ≡ otherwise
  without Unassigned input otherwise no_tei = refl
  without (Awaiting purpose count ri) input otherwise no_tei = refl
  without (Assigned by tei) input otherwise no_tei = cc

  wants_or_forgets : (asked : Asked) → Result (Reaction User) SideKind
  wants_or_forgets Clearing = forgets id.sapi s
  wants_or_forgets asked = wants config now id.sapi s

  requested_as : (asked : Asked)
      → user_requested config (asks asked id) now s ≡ wants_or_forgets asked
  unfolding user_requested wants_or_forgets
  requested_as Establishment =
      without s.management.terminal (request_of Establishment) (wants config now id.sapi s) none
  requested_as Withdrawal =
      without s.management.terminal (request_of Withdrawal) (wants config now id.sapi s) none
  requested_as Clearing =
      without s.management.terminal (request_of Clearing) (forgets id.sapi s) none

  establishes_wanted : (asked : Asked) (a : Reaction User) → Establishes asked
      → user_requested config (asks asked id) now s ≡ Ok a
      → (is_served config id.sapi ≡ true) × (Wanted ≡ a)
  unfolding wants_or_forgets
  establishes_wanted Establishment a is done =
      wants_by (is_served config id.sapi) a refl (sym (requested_as Establishment) ∙ done)
  establishes_wanted Withdrawal a is done =
      wants_by (is_served config id.sapi) a refl (sym (requested_as Withdrawal) ∙ done)
  establishes_wanted Clearing a is done = absurd is

  forgets_by : (test : Bool) (a : Reaction User)
      → (if test then Ok (record {
        after = record s {
          management = record s.management
              { pending = with_pending id.sapi false s.management.pending };
        };
        effects = record no_effects {
          primitives = primitive_of_group id.sapi what.ReleaseConfirm;
        };
      }) else Err NoLink) ≡ Ok a
      → HasAnswerFor Clearing id.sapi a.effects.primitives
  forgets_by true a done =
      let same : (record {
        after = record s {
          management = record s.management
              { pending = with_pending id.sapi false s.management.pending };
        };
        effects = record no_effects {
          primitives = primitive_of_group id.sapi what.ReleaseConfirm;
        };
      }) ≡ a = cc in
      subst (λ (x : Reaction User). HasAnswerFor Clearing id.sapi x.effects.primitives) same
      (confirmed_for id.sapi)
  forgets_by false a done = cc

  cleared : (a : Reaction User) → user_requested config (asks Clearing id) now s ≡ Ok a
      → HasAnswerFor Clearing id.sapi a.effects.primitives
  unfolding wants_or_forgets
  cleared a done =
      forgets_by (is_pending id.sapi s.management.pending) a (sym (requested_as Clearing) ∙ done)

  module _ (a : Reaction User) (done : user_requested config (asks asked id) now s ≡ Ok a)
    where
      own_after : AreOwn a.after
      own_after =
          let w = user_behaviour config in
          let kept = user_preserves config (new_view s) (Ask (asks asked id) now) usual.own in
          (subst (λ r. PreservesOwned Has s (or_unmoved s r)) done kept).after

      timer_after : HasTimerOfTerminal a.after
      timer_after =
          subst (λ r. HasTimerOfTerminal (or_unmoved s r).after) done
          (user_timer config (Ask (asks asked id) now) (new_view s) usual.timer)

      module _ (is : Establishes asked) where
        linked : HasLinks id.sapi
        linked = has_links config id.sapi (establishes_wanted asked a is done).0

        abbrev Ends : ℕ → SideView User → Type 0
        Ends m v = Outcome config id asked clock lateness Limit202 is linked m v

        goes : (after : List SideStep) → KeepsRequest asked side.User id after
            → Throughout (user_behaviour config)
            (λ event x. clock ≡ true → IsPunctual lateness (user_behaviour config) event x) after
            (new_view a.after)
            → Ends (n202 - t202_expiries after) (after_request (user_behaviour config) a after)
        goes after keeps ready =
            let begun = establishes_wanted asked a is done in
            let waits : Waits a.after =
            subst (λ (x : Reaction User). Waits x.after) begun.1 (wanted_waits begun.0) in
            let ready_now = ready_again config id asked clock lateness Limit202 is linked n202 0
            a.after waits
            own_after timer_after in
            all_wait config id asked clock lateness Limit202 is linked after (new_view a.after) n202
            0 keeps ready (inr (inl (record { ready = ready_now; own = own_after })))

        in_the_end : (after : List SideStep)
            → HasAnswerFor asked id.sapi (after_request (user_behaviour config) a after).delivered
            → IsAnsweredFor asked id.sapi (user_behaviour config) a after
        in_the_end after h =
            any_behind (answers_for asked id.sapi) a.effects.primitives
            (after_request (user_behaviour config) a after).delivered h

        timely : (after : List SideStep) (moment : ℕ) → clock ≡ true
            → KeepsRequest asked side.User id after
            → AreExpiredInTime lateness (user_behaviour config) a after moment
            → now + n202 * (config.durations.t202 + lateness)
            + most_periods asked (parameters_for config id.sapi).n200
            * (config.durations.t200 + lateness) < moment
            → IsAnsweredFor asked id.sapi (user_behaviour config) a after
        timely after moment ticks keeps in_time late =
            let ready = with_clock clock lateness User (user_behaviour config) after
            (new_view a.after) in_time.at_each in
            in_the_end after (answered_by config id asked clock lateness Limit202 is linked
            (n202 - t202_expiries after) moment (after_request (user_behaviour config) a after)
            ticks in_time.at_last late (goes after keeps ready))

        -- by counting: if T202 has expired n202 times, the terminal has a TEI or the answer was
        -- reported; then T200 of the TEI's link is counted
        its_tei : (o : ℕ) (x : User) (l : Option Linked)
            → x.served.links (of_sapi id.sapi o) ≡ l → AreOwn x → is_some l ≡ true
            → tei_of x.management.terminal ≡ Some o
        its_tei o x l there own some =
            of_owner x.management.terminal o (own (of_sapi id.sapi o)
            (subst (λ (y : Option Linked). is_some y ≡ true) (sym there) some))

        none_left : (m since last : ℕ) (o : ℕ) (l : Option Linked) → m ≡ 0
            → Debt config (of_sapi id.sapi o) asked clock lateness since m last l → ⊥
        none_left m since last o None none debt = debt
        none_left m since last o (Some l) none debt =
            omega (
              arith,
              debt.few,
              none,
              some_left asked (parameters_for config id.sapi).n200 debt.was l.end.rc,
            )

        exists : (m since last : ℕ) (o : ℕ) (l : Option Linked)
            → Debt config (of_sapi id.sapi o) asked clock lateness since m last l → is_some l ≡ true
        exists m since last o None debt = absurd debt
        exists m since last o (Some l) debt = refl

        exhausted : (m : ℕ) (v : SideView User) (second : List SideStep) → m ≡ 0
            → KeepsRequest asked side.User id second
            → Throughout (user_behaviour config)
            (λ event x. clock ≡ true → IsPunctual lateness (user_behaviour config) event x) second v
            → AreOwn v.now
            → ((own : ℕ) → tei_of v.now.management.terminal ≡ Some own
            → most_expiries asked (parameters_for config id.sapi).n200
            ≤ expiries_of (of_sapi id.sapi own) second)
            → Ends m v
            → HasAnswerFor asked id.sapi (stepped_by_all (user_behaviour config) second v).delivered
        exhausted m v second none keeps ready own enough (inl h) =
            still_has config id asked clock lateness Limit202 is linked second v h
        exhausted m v second none keeps ready own enough (inr (inl (last, p))) =
            absurd (omega (arith, p.ready.waits.few, none))
        exhausted m v second none keeps ready own enough (inr (inr o)) =
            let at = v.now.served.links (of_sapi id.sapi o.own) in
            let has_tei = its_tei o.own v.now at refl own (exists o.m o.since o.last o.own at
            o.debt) in
            let more = enough o.own has_tei in
            elim (indebted_goes config id asked clock lateness Limit202 is linked second v o.own
            o.since o.m o.last keeps ready o.debt) [
              | inl h ↦ h
              | inr (final, debt) ↦ absurd (none_left
                  (o.m - expiries_of (of_sapi id.sapi o.own) second) o.since final o.own _
                  (omega (arith, o.few, more)) debt)
            ]

        counted : (first second : List SideStep) → KeepsRequest asked side.User id (first ++ second)
            → Throughout (user_behaviour config)
            (λ event x. clock ≡ true → IsPunctual lateness (user_behaviour config) event x) first
            (new_view a.after)
            → Throughout (user_behaviour config)
            (λ event x. clock ≡ true → IsPunctual lateness (user_behaviour config) event x) second
            (after_request (user_behaviour config) a first)
            → n202 ≤ t202_expiries first
            → ((own : ℕ)
            → tei_of (after_request (user_behaviour config) a first).now.management.terminal
            ≡ Some own → most_expiries asked (parameters_for config id.sapi).n200
            ≤ expiries_of (of_sapi id.sapi own) second)
            → IsAnsweredFor asked id.sapi (user_behaviour config) a (first ++ second)
        counted first second keeps ready then_ready exhausts enough =
            let w = user_behaviour config in
            let v = after_request w a first in
            let asks_release = λ (y : SideStep). requests_release side.User id y.event in
            let early : KeepsRequest asked side.User id first =
            λ may_not. any_first asks_release first second (keeps may_not) in
            let late : KeepsRequest asked side.User id second =
            λ may_not. any_second asks_release first second (keeps may_not) in
            let h = exhausted (n202 - t202_expiries first) v second (omega (arith, exhausts)) late
            then_ready (user_steps_own config first (new_view a.after) own_after) enough
            (goes first early ready) in
            in_the_end (first ++ second) (subst
            (λ (y : SideView User). HasAnswerFor asked id.sapi y.delivered)
            (sym (one_by_one User w first second (new_view a.after))) h)

pub user_without_tei_in_time : (config : Config) (fixed : Option ℕ) (random : Lcg)
    (before after : List SideStep) (asked : Asked) (id : LinkId)
    (lateness now moment : ℕ) (a : Reaction User) → All (λ x. IsBy now x.event) before
    → tei_of (user_after config fixed random before).management.terminal ≡ None
    → user_requested config (asks asked id) now (user_after config fixed random before) ≡ Ok a
    → KeepsRequest asked side.User id after
    → AreExpiredInTime lateness (user_behaviour config) a after moment
    → now + n202 * (config.durations.t202 + lateness)
    + most_periods asked (parameters_for config id.sapi).n200 * (config.durations.t200 + lateness)
    < moment
    → IsAnsweredFor asked id.sapi (user_behaviour config) a after
user_without_tei_in_time config fixed random before after Establishment id lateness now moment a by
    none
    done
    keeps in_time late =
    timely config id Establishment true lateness now (user_after config fixed random before)
    (user_has_usual config true now id fixed random before (λ ticks. by)) none a done tt after
    moment refl keeps in_time late
user_without_tei_in_time config fixed random before after Withdrawal id lateness now moment a by
    none
    done
    keeps
    in_time late =
    timely config id Withdrawal true lateness now (user_after config fixed random before)
    (user_has_usual config true now id fixed random before (λ ticks. by)) none a done tt after
    moment refl keeps in_time late
user_without_tei_in_time config fixed random before after Clearing id lateness now moment a by none
    done
    keeps
    in_time late =
    any_more (answers_for Clearing id.sapi) a.effects.primitives
    (after_request (user_behaviour config) a after).delivered
    (cleared config id Clearing true lateness now (user_after config fixed random before)
    (user_has_usual config true now id fixed random before (λ ticks. by)) none a done)

pub user_without_tei : (config : Config) (fixed : Option ℕ) (random : Lcg)
    (before first second : List SideStep) (asked : Asked) (id : LinkId) (now : ℕ)
    (a : Reaction User) → tei_of (user_after config fixed random before).management.terminal ≡ None
    → user_requested config (asks asked id) now (user_after config fixed random before) ≡ Ok a
    → KeepsRequest asked side.User id (first ++ second) → n202 ≤ t202_expiries first
    → ((own : ℕ)
    → tei_of (after_request (user_behaviour config) a first).now.management.terminal
    ≡ Some own
    → most_expiries asked (parameters_for config id.sapi).n200
    ≤ expiries_of (of_sapi id.sapi own) second)
    → IsAnsweredFor asked id.sapi (user_behaviour config) a (first ++ second)
user_without_tei config fixed random before first second Establishment id now a none done keeps
    exhausts enough =
    let w = user_behaviour config in
    counted config id Establishment false 0 now (user_after config fixed random before)
    (user_has_usual config false now id fixed random before (λ ticks. cc)) none a done tt
    first second keeps (without_clock User w first (new_view a.after))
    (without_clock User w second (after_request w a first)) exhausts enough
user_without_tei config fixed random before first second Withdrawal id now a none done keeps
    exhausts enough =
    let w = user_behaviour config in
    counted config id Withdrawal false 0 now (user_after config fixed random before)
    (user_has_usual config false now id fixed random before (λ ticks. cc)) none a done tt
    first second keeps (without_clock User w first (new_view a.after))
    (without_clock User w second (after_request w a first)) exhausts enough
user_without_tei config fixed random before first second Clearing id now a none done keeps
    exhausts enough =
    any_more (answers_for Clearing id.sapi) a.effects.primitives
    (after_request (user_behaviour config) a (first ++ second)).delivered
    (cleared config id Clearing false 0 now (user_after config fixed random before)
    (user_has_usual config false now id fixed random before (λ ticks. cc)) none a done)
