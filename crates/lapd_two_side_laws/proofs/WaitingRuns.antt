-- Any events while a terminal awaits a TEI for a kept establishment: layer 3 has its answer in
-- time, from the terminal or from the link of the TEI.
use Rattle.std.proofs.Common.{◌≡◌, sym, if◌then◌else◌, ◌⊎◌, inl, inr, ℕ, ◌+◌, ◌-◌, ◌*◌, ◌≤◌, ◌<◌, ◌==◌, ◌&&◌, ◌||◌, Bool, true, false, List, [], ◌∷◌, ◌++◌, Option, Some, None, refl, ap, subst, arith}
use Rattle.std.specs.Prelude.{is_some, cond}
use Rattle.std.proofs.lemmas.List.Sums.{sum_by-cons}
use Rattle.lapd_side_events.specs.SideView.{unmoved}
use Rattle.lapd_two_side_laws.specs.Answers.{is_t202, t202_expiries}
use Rattle.lapd_sides_links.specs.Links.{Reaction}
use Rattle.std.specs.List.{list_any}
use Rattle.std.proofs.lemmas.Bool.{cases_lt, or_left, or_right}
use Rattle.lapd_timers.specs.declared.timer.Timer.TheVariants.{T202}
use Rattle.lapd_timers.specs.Due.{deadline_of}
use Rattle.lapd_frame.specs.declared.Sapi.{Sapi}
use Rattle.lapd_frame.specs.declared.Sapi.TheVariants as sapi
use Rattle.lapd_frame.specs.declared.Side.TheVariants as side
use Rattle.lapd_frame.specs.Address.{sapi_value}
use Rattle.lapd_tei.specs.declared.phase.Phase.{Phase}
use Rattle.lapd_table.specs.declared.link_id.LinkId.{LinkId}
use Rattle.lapd_table.specs.LinkId.{id_eq}
use Rattle.lapd_table.proofs.Ids.{same_id_eq}
use Rattle.lapd_tei.specs.declared.terminal.TerminalEvent.TheVariants as event
use Rattle.lapd_sides_links.specs.declared.config.Config.{Config}
use Rattle.lapd_sides_links.specs.declared.primitive.Primitive.{Primitive}
use Rattle.lapd_sides_links.specs.declared.primitive.Primitive.TheVariants.{Of, Management}
use Rattle.lapd_sides_links.specs.declared.primitive.What.{What}
use Rattle.lapd_sides_links.specs.declared.running_timer.RunningTimer.{RunningTimer}
use Rattle.lapd_sides_links.specs.Expiries.{IsQuietBefore}
use Rattle.lapd_sides_links.specs.Links.{Linked, Links, Served, parameters_for}
use Rattle.lapd_sides.specs.SideState.{expires, with_stopped}
use Rattle.lapd_sides.specs.User.{User, user_rules, terminal_acts}
use Rattle.lapd_two_side_laws.specs.Answers.{answers, answers_for, HasAnswer, HasAnswerFor, KeepsRequest, requests_release, IsAtMostLate, IsPunctual, Throughout, expiries_of, most_periods}
use Rattle.lapd_two_side_laws.specs.EndAnswers.{Asked, may_release, most_expiries}
use Rattle.lapd_two_side_laws.specs.ExactTimers.{SideStep, stepped, stepped_by_all}
use Rattle.lapd_side_events.specs.Interface.{user_behaviour}
use Rattle.lapd_two_side_laws.specs.ManagementTimers.{HasTimerOfTerminal}
use Rattle.lapd_two_side_laws.specs.Primitives.{link_primitives}
use Rattle.lapd_side_events.specs.SideView.{SideView, SideEvent, Take, Lose, Expire, Ask, Overhear, reaction, does}
use Rattle.lapd_two_side_laws.proofs.AnsweredSides.{Debt, debt_closed, advance, Ready, quiet_until}
use Rattle.lapd_two_side_laws.proofs.EachEvent.{user_ways, all_go}
use Rattle.lapd_two_side_laws.proofs.EachLink.{HasLinks}
use Rattle.lapd_two_side_laws.proofs.LinkParts.{any_more, any_behind}
use Rattle.lapd_two_side_laws.proofs.ManagementSides.{user_timer}
use Rattle.lapd_two_side_laws.proofs.OwnSides.{AreOwn, user_preserves}
use Rattle.lapd_two_side_laws.proofs.TerminalOwn.{Owns}
use Rattle.lapd_two_side_laws.proofs.WaitingSteps.{Allows, Waiting, expired, waiting_goes}
use Rattle.lapd_two_side_laws.proofs.WaitingUser.{Establishes, Waits, IsReady, HasBegun, GoesWith, with_tei_of}
use Rattle.lapd_two_side_laws.proofs.Reactions as reactions
use Rattle.lapd_two_side_laws.proofs.Reactions.{AnyInput, any_event, moment_or}

-- ---- An answer about a link is one about its SAPI.

one_of : (a b : Bool) → (a || b) ≡ true → (a ≡ true) ⊎ (b ≡ true)
one_of true b h = inl refl
one_of false b h = inr h

both_are : {a b : Bool} → a ≡ true → b ≡ true → (a && b) ≡ true
both_are one other = rw (one, other) refl

module _ (asked : Asked) (id : LinkId) where
  same_sapi : (other : LinkId) → id_eq id other ≡ true
      → (sapi_value id.sapi == sapi_value other.sapi) ≡ true
  same_sapi other same =
      let is : id.sapi ≡ other.sapi = ap (λ (k : LinkId). k.sapi) (same_id_eq id other same) in
      rw is (itself other.sapi)
    where
      itself : (at : Sapi) → (sapi_value at == sapi_value at) ≡ true
      itself sapi.Call = refl
      itself sapi.Packet = refl
      itself sapi.Management = refl

  abbrev AmongOthers : List Primitive → Type 0
  AmongOthers ps = HasAnswer asked id ps → HasAnswerFor asked id.sapi ps

  first_of : (other : LinkId) (w : What) (ps : List Primitive) (test : Bool)
      → id_eq id other ≡ test → AmongOthers ps → AmongOthers (Of other w ∷ ps)
  first_of other w ps true same more h =
      let found : (answers asked w || list_any (answers asked) (link_primitives id ps)) ≡ true =
      (let at : HasAnswer asked id (Of other w ∷ ps)
      ≡ ((answers asked w || list_any (answers asked) (link_primitives id ps)) ≡ true) =
      rw same refl in subst (λ X. X) at h) in
      elim (one_of (answers asked w) (list_any (answers asked) (link_primitives id ps)) found) [
        | inl it ↦ or_left _ _ (both_are (same_sapi other same) it)
        | inr later ↦ or_right _ _ (more later)
      ]
  first_of other w ps false apart more h = or_right _ _ (more (rw apart at h))

  pub for_sapi : (ps : List Primitive) → AmongOthers ps
  for_sapi [] h = cc
  for_sapi (Of other w ∷ ps) h = first_of other w ps (id_eq id other) refl (for_sapi ps) h
  for_sapi (Management o ∷ ps) h = for_sapi ps h

-- ---- T202 is not overdue, or by the lateness at most.

managed_not_overdue : (s : Served) (deadline moment : ℕ) → deadline_of T202 s.timers ≡ Some deadline
    → IsQuietBefore s moment → moment ≤ deadline
managed_not_overdue s deadline moment runs quiet = elim (cases_lt deadline moment) [
  | inl overdue ↦
      let e : RunningTimer = record { timer = T202; of = None; deadline = deadline } in
      absurd (quiet deadline overdue e (record {
        runs = record { its = s.timers; there = refl; own = tt; until = runs };
        is_past = omega arith;
      }))
  | inr early ↦ early
]

quiet_managed : (s : Served) (deadline lateness moment : ℕ)
    → deadline_of T202 s.timers ≡ Some deadline → IsAtMostLate lateness s moment
    → moment ≤ deadline + lateness
quiet_managed s deadline lateness moment runs quiet =
    omega (arith, managed_not_overdue s deadline (moment - lateness) runs quiet)

no_link : (l : Option Linked) → (is_some l ≡ true → ⊥) → l ≡ None
no_link None none = refl
no_link (Some l) none = absurd (none refl)

neither : (a b : Bool) → (a || b) ≡ false → (a ≡ false) × (b ≡ false)
neither false b h = (refl, h)
neither true b h = cc

-- one if T202 of TEI management expires
abbrev pub one_202 : SideEvent → ℕ
one_202 event = cond (is_t202 event) 1 0

module _ (config : Config) (id : LinkId) (asked : Asked) (clock : Bool) (lateness limit : ℕ)
    (is : Establishes asked) (has : HasLinks id.sapi) where
  abbrev Wait : ℕ → ℕ → User → Type 0
  Wait m last s = Waits config id asked clock lateness limit m last s

  abbrev Begun : ℕ → Links → Type 0
  Begun last links = HasBegun config id asked clock lateness limit last links

  abbrev Has : SideView User → Type 0
  Has v = HasAnswerFor asked id.sapi v.delivered

  -- by the clock, each event is punctual
  abbrev Punctual : SideEvent → User → Type 0
  Punctual event s = clock ≡ true → IsPunctual lateness (user_behaviour config) event s

  later : (m last moment : ℕ) (s : User) → IsReady config id asked clock lateness limit m last s
      → (clock ≡ true → IsAtMostLate lateness s.served moment)
      → IsReady config id asked clock lateness limit m moment s
  later m last moment s h quiet =
      let w = h.waits in
      record {
        waits = record {
          purpose = w.purpose;
          count = w.count;
          ri = w.ri;
          phase = w.phase;
          kept = w.kept;
          served = w.served;
          durations = w.durations;
          deadline = w.deadline;
          runs = w.runs;
          few = w.few;
          in_time = λ ticks.
              let t = w.in_time ticks in
              record {
                early = quiet_managed s.served w.deadline lateness moment w.runs
                    (quiet ticks);
                late = t.late;
                bounded = t.bounded;
              };
        };
        no_links = h.no_links;
        timer = h.timer;
      }

  at_event : (event : SideEvent) (m last : ℕ) (s : User) → Punctual event s
      → IsReady config id asked clock lateness limit m last s
      → IsReady config id asked clock lateness limit m (moment_or last event) s
  at_event (Take moment) m last s quiet h = later m last moment s h quiet
  at_event (Lose at) m last s quiet h = h
  at_event (Expire timer of moment) m last s quiet h = later m last moment s h quiet
  at_event (Ask request moment) m last s quiet h = later m last moment s h quiet
  at_event (Overhear octets moment) m last s quiet h = later m last moment s h quiet

  abbrev GoesTo : ℕ → ℕ → Reaction User → Type 0
  GoesTo m now a = GoesWith config id asked clock lateness limit m now m a

  reacts : (event : SideEvent) (v : SideView User) (m last : ℕ)
      → (may_release asked ≡ false → requests_release side.User id event ≡ false)
      → IsReady config id asked clock lateness limit m (moment_or last event) v.now
      → GoesTo m (moment_or last event) (reaction (user_behaviour config) event v)
  reacts event v m last keeps ready =
      reactions.reacts {R = λ now. Waiting config id asked clock lateness limit is m now}
      (waiting_goes config id asked clock lateness limit is m) last event v
      (any_event AnyInput (λ id control role info. tt) (λ id kind. tt) user_rules
      (Allows config id asked clock lateness limit is m) event v (λ request now is may_not.
      subst (λ e. requests_release side.User id e ≡ false) is (keeps may_not))) ready

  none_spent : (m now spent : ℕ) (a : Reaction User) → spent ≡ 0 → GoesTo m now a
      → GoesWith config id asked clock lateness limit m now (m - spent) a
  none_spent m now spent a none h =
      subst (λ k. GoesWith config id asked clock lateness limit m now k a) (omega (arith, none)) h

  -- an expiry of T202 is counted
  spends : (event : SideEvent) (v : SideView User) (m last : ℕ)
      → (may_release asked ≡ false → requests_release side.User id event ≡ false)
      → IsReady config id asked clock lateness limit m (moment_or last event) v.now
      → GoesWith config id asked clock lateness limit m (moment_or last event) (m - one_202 event)
      (reaction (user_behaviour config) event v)
  unfolding expires
  spends (Expire T202 None now) v m last keeps ready =
      let on : is_some (deadline_of T202 v.now.served.timers) ≡ true = rw ready.waits.runs refl in
      subst (λ test. GoesWith config id asked clock lateness limit m now (m - 1)
      (if test then terminal_acts config now event.T202 (with_stopped T202 v.now)
      else unmoved v.now)) (sym on)
      (expired config id asked clock lateness limit is m now v.now ready)
  spends event v m last keeps ready =
      none_spent m (moment_or last event) (one_202 event)
      (reaction (user_behaviour config) event v) refl (reacts event v m last keeps ready)

  -- a waiting terminal has no links
  pub ready_again : (m now : ℕ) (s : User) → Wait m now s → AreOwn s → HasTimerOfTerminal s
      → IsReady config id asked clock lateness limit m now s
  ready_again m now s w own timer = record {
    waits = w;
    no_links = λ k. no_link (s.served.links k)
        (λ there. subst (λ (phase : Phase). Owns phase k.tei) w.phase (own k there));
    timer = timer;
  }

  -- the state after one event
  pub record IsPending (m last : ℕ) (s : User) : Type 0 where
    pub ready : IsReady config id asked clock lateness limit m last s
    pub own : AreOwn s

  abbrev After : ℕ → ℕ → SideView User → Type 0
  After m last v = Has v ⊎ (IsPending m last v.now ⊎ Begun last v.now.served.links)

  one_event : (x : SideStep) (v : SideView User) (m last : ℕ)
      → (may_release asked ≡ false → requests_release side.User id x.event ≡ false)
      → Punctual x.event v.now → IsPending m last v.now
      → After (m - one_202 x.event) (moment_or last x.event)
      (stepped (user_behaviour config) x v)
  unfolding does
  one_event x v m last keeps quiet h =
      let w = user_behaviour config in
      let before : SideView User = record v { incoming = v.incoming ++ x.arrives } in
      let ready = at_event x.event m last v.now quiet h.ready in
      let own = (user_preserves config before x.event h.own).after in
      let timer = user_timer config x.event before h.ready.timer in
      elim (spends x.event before m last keeps ready) [
        | inl answered ↦ inl (any_behind (answers_for asked id.sapi) v.delivered
            (reaction w x.event before).effects.primitives answered)
        | inr (inl waits) ↦ inr (inl (record {
          ready = ready_again (m - one_202 x.event) (moment_or last x.event)
              (reaction w x.event before).after waits own timer;
          own = own;
        }))
        | inr (inr begun) ↦ inr (inr begun)
      ]

  pub still_has : (xs : List SideStep) (v : SideView User) → Has v
      → Has (stepped_by_all (user_behaviour config) xs v)
  unfolding does
  still_has [] v h = h
  still_has (x ∷ xs) v h =
      let w = user_behaviour config in
      let before : SideView User = record v { incoming = v.incoming ++ x.arrives } in
      still_has xs (stepped w x v) (any_more (answers_for asked id.sapi) v.delivered
      (reaction w x.event before).effects.primitives h)

  -- a debt of the link of some TEI
  pub record IsIndebted (links : Links) : Type 0 where
    pub own : ℕ
    pub since : ℕ
    pub last : ℕ
    pub m : ℕ
    pub few : m ≤ most_expiries asked (parameters_for config id.sapi).n200
    pub in_time : clock ≡ true → since ≤ limit
    pub debt : Debt config (with_tei_of config id asked clock lateness limit own) asked clock
        lateness since m last (links (with_tei_of config id asked clock lateness limit own))

  abbrev pub Outcome : ℕ → SideView User → Type 0
  Outcome m v = Has v ⊎ (((last : ℕ) × IsPending m last v.now) ⊎ IsIndebted v.now.served.links)

  abbrev Keeps : List SideStep → Type 0
  Keeps xs = KeepsRequest asked side.User id xs

  abbrev ArePunctual : List SideStep → SideView User → Type 0
  ArePunctual xs v = Throughout (user_behaviour config) Punctual xs v

  -- the link of the TEI from here on
  pub indebted_goes : (xs : List SideStep) (v : SideView User) (own since m last : ℕ) → Keeps xs
      → ArePunctual xs v
      → Debt config (with_tei_of config id asked clock lateness limit own) asked clock lateness
      since m last (v.now.served.links (with_tei_of config id asked clock lateness limit own))
      → Has (stepped_by_all (user_behaviour config) xs v)
      ⊎ ((final : ℕ) × Debt config (with_tei_of config id asked clock lateness limit own) asked
      clock lateness since
      (m - expiries_of (with_tei_of config id asked clock lateness limit own) xs) final
      ((stepped_by_all (user_behaviour config) xs v).now.served.links
      (with_tei_of config id asked clock lateness limit own)))
  indebted_goes xs v own since m last keeps quiet debt =
      let w = user_behaviour config in
      let its = with_tei_of config id asked clock lateness limit own in
      let D = Debt config its asked clock lateness since in
      let closed = debt_closed config its asked clock lateness since has in
      let v2 = stepped_by_all w xs v in
      elim (all_go its (may_release asked) (answers asked) D config User w side.User closed
      (user_ways its (may_release asked) (answers asked) D config closed)
      (Ready config its asked clock lateness since User w)
      (advance config its asked clock lateness since User w) xs v m keeps quiet
      (inr (last, debt))) [
        | inl h ↦ inl (for_sapi asked its v2.delivered h)
        | inr rest ↦ inr rest
      ]

  begun_goes : (xs : List SideStep) (v : SideView User) (m last : ℕ) → Keeps xs
      → ArePunctual xs v → Begun last v.now.served.links
      → Outcome m (stepped_by_all (user_behaviour config) xs v)
  begun_goes xs v m last keeps quiet b =
      let its = with_tei_of config id asked clock lateness limit b.own in
      let most = most_expiries asked (parameters_for config id.sapi).n200 in
      elim (indebted_goes xs v b.own b.since most last keeps quiet b.debt) [
        | inl h ↦ inl h
        | inr (final, o) ↦ inr (inr (record {
          own = b.own;
          since = b.since;
          last = final;
          m = most - expiries_of its xs;
          few = omega arith;
          in_time = b.in_time;
          debt = o;
        }))
      ]

  counted_202 : (x : SideStep) (xs : List SideStep)
      → t202_expiries (x ∷ xs) ≡ one_202 x.event + t202_expiries xs
  counted_202 x xs = sum_by-cons (λ y. cond {A = ℕ} (is_t202 y.event) 1 0) x xs

  same_pending : (m k last : ℕ) (s : User) → m ≡ k → IsPending m last s → IsPending k last s
  same_pending m k last s same h = subst (λ j. IsPending j last s) same h

  pub all_wait : (xs : List SideStep) (v : SideView User) (m last : ℕ) → Keeps xs
      → ArePunctual xs v → After m last v
      → Outcome (m - t202_expiries xs) (stepped_by_all (user_behaviour config) xs v)
  all_wait xs v m last keeps quiet (inl h) = inl (still_has xs v h)
  all_wait xs v m last keeps quiet (inr (inr b)) =
      begun_goes xs v (m - t202_expiries xs) last keeps quiet b
  all_wait [] v m last keeps quiet (inr (inl h)) =
      inr (inl (last, same_pending m (m - 0) last v.now (omega arith) h))
  all_wait (x ∷ xs) v m last keeps quiet (inr (inl h)) =
      let w = user_behaviour config in
      let both : may_release asked ≡ false → (requests_release side.User id x.event ≡ false)
      × (list_any (λ y. requests_release side.User id y.event) xs ≡ false) =
      λ may_not. neither (requests_release side.User id x.event)
      (list_any (λ y. requests_release side.User id y.event) xs) (keeps may_not) in
      let less = m - one_202 x.event in
      let same : less - t202_expiries xs ≡ m - t202_expiries (x ∷ xs) =
      omega (arith, counted_202 x xs) in
      subst (λ k. Outcome k (stepped_by_all w xs (stepped w x v))) same
      (all_wait xs (stepped w x v) less (moment_or last x.event) (λ may_not. (both may_not).1)
      quiet.1 (one_event x v m last (λ may_not. (both may_not).0) quiet.0 h))

  -- layer 3 has the answer by then
  pub answered_by : (m moment : ℕ) (v : SideView User) → clock ≡ true
      → IsAtMostLate lateness v.now.served moment
      → limit + most_periods asked (parameters_for config id.sapi).n200
      * (config.durations.t200 + lateness) < moment → Outcome m v → Has v
  answered_by m moment v ticks quiet late (inl h) = h
  answered_by m moment v ticks quiet late (inr (inl (last, h))) =
      let w = h.ready.waits in
      let t = w.in_time ticks in
      let early = quiet_managed v.now.served w.deadline lateness moment w.runs quiet in
      absurd (omega (arith, early, t.bounded, late))
  answered_by m moment v ticks quiet late (inr (inr o)) =
      let its = with_tei_of config id asked clock lateness limit o.own in
      absurd (too_late (v.now.served.links its) refl o.debt)
    where
      too_late : (l : Option Linked)
          → v.now.served.links (with_tei_of config id asked clock lateness limit o.own) ≡ l
          → Debt config (with_tei_of config id asked clock lateness limit o.own) asked clock
          lateness o.since o.m o.last l → ⊥
      too_late None none debt = debt
      too_late (Some l) there debt =
          let t = debt.in_time ticks in
          let early = quiet_until v.now.served
          (with_tei_of config id asked clock lateness limit o.own) l debt.deadline lateness moment
          there debt.runs quiet in
          omega (arith, early, t.bounded, o.in_time ticks, late)
