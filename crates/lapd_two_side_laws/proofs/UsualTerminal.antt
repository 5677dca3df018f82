-- The terminal of a user side after any events: T202 has the duration of the configuration, it ends
-- one period after the last moment at most, and a terminal that awaits a TEI has requested one.
use Rattle.lapd_sides.specs.SideState.{with_stopped}
use Rattle.std.proofs.Common.{◌≡◌, ℕ, ◌+◌, ◌≤◌, ◌==◌, ◌&&◌, not, nat_lt, Bool, true, List, [], ◌∷◌, ◌++◌, Option, Some, None, refl, sym, ap, subst, arith}
use Rattle.std.specs.List.{All}
use Rattle.std.proofs.lemmas.List.Elements.{All-head, All-tail}
use Rattle.rand_pcg.specs.Lcg.{Lcg}
use Rattle.lapd_timers.specs.declared.timer.Timer.{Timer}
use Rattle.lapd_timers.specs.declared.timer.Timer.TheVariants.{T200, T201, T202, T203}
use Rattle.lapd_timers.specs.Due.{Timers, deadline_of, deadline_from, last_moment}
use Rattle.lapd_timers.specs.Durations.{Lengths}
use Rattle.lapd_tei.specs.declared.kind.TeiKind.{TeiKind}
use Rattle.lapd_tei.specs.declared.kind.TeiKind.TheVariants as kind
use Rattle.lapd_tei.specs.declared.out.TeiOut.{TeiOut}
use Rattle.lapd_tei.specs.declared.out.TeiOut.TheVariants as outcome
use Rattle.lapd_tei.specs.declared.phase.Phase.{Phase}
use Rattle.lapd_tei.specs.declared.phase.Phase.TheVariants.{Unassigned, Awaiting, Assigned}
use Rattle.lapd_tei.specs.declared.phase.Purpose.{Purpose}
use Rattle.lapd_tei.specs.declared.terminal.TerminalEvent.{TerminalEvent}
use Rattle.lapd_tei.specs.declared.terminal.TerminalEvent.TheVariants as event
use Rattle.lapd_tei.specs.Terminal.{TerminalStep, moves_to, n202, is_automatic, names, is_got_by, awaiting_receives, assigned_receives, terminal_step}
use Rattle.lapd_table.specs.declared.link_id.LinkId.{LinkId}
use Rattle.lapd_sides_links.specs.declared.config.Config.{Config}
use Rattle.lapd_sides_links.specs.Effects.{managed, managed_by, stopped}
use Rattle.lapd_sides.specs.Management.{manages}
use Rattle.lapd_sides.specs.User.{User, new_user, next_reference, terminal_acts, TerminalState, user_rules}
use Rattle.lapd_two_side_laws.specs.Answers.{IsBy}
use Rattle.lapd_two_side_laws.specs.ExactTimers.{SideStep, stepped, stepped_by_all, new_view}
use Rattle.lapd_side_events.specs.Interface.{user_behaviour}
use Rattle.lapd_two_side_laws.specs.ManagementTimers.{HasTimerOfTerminal}
use Rattle.lapd_two_side_laws.specs.NewLinks.{user_after}
use Rattle.lapd_side_events.specs.SideView.{SideView, SideEvent, Take, Lose, Expire, Ask, Overhear, does}
use Rattle.lapd_two_side_laws.proofs.AsMade.{new_are_own}
use Rattle.lapd_two_side_laws.proofs.ReportsNoTei.{pending_aside}
use Rattle.lapd_two_side_laws.proofs.Requests.{by_events, step_at, stepped_by, user_asked}
use Rattle.lapd_two_side_laws.proofs.ManagementSides.{user_timer, new_user_waits}
use Rattle.lapd_two_side_laws.proofs.OwnSides.{AreOwn, user_preserves}
use Rattle.lapd_two_side_laws.proofs.Reactions.{AnyInput, AnyRequest, HoldsOfEvents, HoldsOfLinks, Law, each_event, each_request, if_either, moment_or, reacts}

-- ---- A terminal that awaits a TEI has requested one.

abbrev pub IsCounted : Phase → Type 0
IsCounted (Awaiting purpose count ri) = 1 ≤ count
IsCounted phase = Unit {0}

abbrev CountsAfter : TerminalStep → Type 0
CountsAfter step = IsCounted step.now

awaiting_counts : (purpose : Purpose) (count ri : ℕ) (k : TeiKind) (its ai : ℕ) → 1 ≤ count
    → CountsAfter (awaiting_receives purpose count ri k its ai)
awaiting_counts purpose count ri kind.Assigned its ai h =
    if_either CountsAfter ((its == ri) && is_automatic ai) (moves_to (Assigned (Some ri) ai)
    (outcome.Stop T202 ∷ outcome.Got ai ∷ [])) (moves_to (Awaiting purpose count ri) []) tt h
awaiting_counts purpose count ri other its ai h = h

assigned_counts : (by : Option ℕ) (tei : ℕ) (k : TeiKind) (its ai new : ℕ)
    → CountsAfter (assigned_receives by tei k its ai new)
assigned_counts by tei kind.Assigned its ai new =
    if_either CountsAfter ((ai == tei) && not (is_got_by by its))
    (moves_to Unassigned (outcome.Gone tei ∷ [])) (moves_to (Assigned by tei) []) tt tt
assigned_counts by tei kind.CheckRequest its ai new =
    if_either CountsAfter (names ai tei) _ (moves_to (Assigned by tei) []) tt tt
assigned_counts by tei kind.Remove its ai new =
    if_either CountsAfter (names ai tei) (moves_to Unassigned (outcome.Gone tei ∷ []))
    (moves_to (Assigned by tei) []) tt tt
assigned_counts by tei other its ai new = tt

counts_on : (phase : Phase) (e : TerminalEvent) → IsCounted phase
    → CountsAfter (terminal_step phase e)
counts_on Unassigned (event.Ask ri) h = omega arith
counts_on Unassigned (event.Want ri) h = omega arith
counts_on Unassigned (event.Heard m new) h = tt
counts_on Unassigned (event.T202 new) h = tt
counts_on Unassigned event.Leave h = tt
counts_on (Awaiting purpose count ri) (event.Ask new) h = h
counts_on (Awaiting purpose count ri) (event.Want new) h = h
counts_on (Awaiting purpose count ri) (event.Heard m new) h =
    awaiting_counts purpose count ri m.kind m.ri m.ai h
counts_on (Awaiting purpose count ri) (event.T202 new) h =
    if_either CountsAfter (nat_lt count n202) _ (moves_to Unassigned (outcome.Failed ∷ []))
    (omega arith) tt
counts_on (Awaiting purpose count ri) event.Leave h = tt
counts_on (Assigned by tei) (event.Ask new) h = tt
counts_on (Assigned by tei) (event.Want new) h = tt
counts_on (Assigned by tei) (event.Heard m new) h = assigned_counts by tei m.kind m.ri m.ai new
counts_on (Assigned by tei) (event.T202 new) h = tt
counts_on (Assigned by tei) event.Leave h = tt

-- ---- T202.

some_same : (x y : ℕ) → Some x ≡ Some y → x ≡ y
some_same x y h = cc

module _ (config : Config) (clock : Bool) (bound : ℕ) where
  pub record IsPlain (t : Timers) : Type 0 where
    pub durations : t.durations ≡ config.durations
    pub early : clock ≡ true → (d : ℕ) → deadline_of T202 t ≡ Some d
        → (d ≤ bound + config.durations.t202) × (d ≤ last_moment)

  pub record IsUsualTerminal (terminal : Phase) (t : Timers) : Type 0 where
    pub counted : IsCounted terminal
    pub plain : IsPlain t

  abbrev pub UsualUser : User → Type 0
  UsualUser s = IsUsualTerminal s.management.terminal s.served.timers

  plain_by : (now : ℕ) (o : TeiOut) (t : Timers) → (clock ≡ true → now ≤ bound) → IsPlain t
      → IsPlain (managed_by now o t)
  plain_by now (outcome.Start T200) t by h = record { durations = h.durations; early = h.early }
  plain_by now (outcome.Start T201) t by h = record { durations = h.durations; early = h.early }
  plain_by now (outcome.Start T202) t by h = record {
    durations = h.durations;
    early = λ ticks d is.
        let earlier = by ticks in
        let length_is : t.durations.t202 ≡ config.durations.t202 =
        ap (λ (x : Lengths). x.t202) h.durations in
        let at : deadline_from now t.durations.t202 ≡ d =
        some_same (deadline_from now t.durations.t202) d is in
        (omega (arith, earlier, length_is, at), omega (arith, at));
  }
  plain_by now (outcome.Start T203) t by h = record { durations = h.durations; early = h.early }
  plain_by now (outcome.Stop T200) t by h = record { durations = h.durations; early = h.early }
  plain_by now (outcome.Stop T201) t by h = record { durations = h.durations; early = h.early }
  plain_by now (outcome.Stop T202) t by h = record {
    durations = h.durations;
    early = λ ticks d is.
        cc;
  }
  plain_by now (outcome.Stop T203) t by h = record { durations = h.durations; early = h.early }
  plain_by now o t by h = h

  plain_after : (now : ℕ) (outs : List TeiOut) (t : Timers) → (clock ≡ true → now ≤ bound)
      → IsPlain t
      → IsPlain (managed now outs t)
  plain_after now [] t by h = h
  plain_after now (o ∷ outs) t by h = plain_after now outs (managed_by now o t) by
      (plain_by now o t by h)

  -- each reaction keeps it, by the bound
  abbrev Usually : ℕ → Law TerminalState
  Usually now s a = (clock ≡ true → now ≤ bound) → UsualUser s → UsualUser a.after

  acts_usual : (now : ℕ) (e : ℕ → TerminalEvent) (s : User)
      → Usually now s (terminal_acts config now e s)
  unfolding terminal_acts manages
  acts_usual now e s by u =
      let step = step_at e s in
      let aside = pending_aside now step.outs (stepped_by config now step s).after in
      record {
        counted = subst IsCounted (sym aside.terminal)
            (counts_on s.management.terminal (e (next_reference s.management.random)) u.counted);
        plain = subst IsPlain (sym aside.timers)
            (plain_after now step.outs s.served.timers by u.plain);
      }

  plain_stopped : (timer : Timer) (t : Timers) → IsPlain t → IsPlain (stopped timer t)
  plain_stopped timer t h = plain_by 0 (outcome.Stop timer) t (λ ticks. omega arith) h

  usual_links : (now : ℕ) → HoldsOfLinks user_rules now (Usually now) AnyInput
  usual_links now = record {
    still = λ s by u. u;
    counts = λ s by u. u;
    reports = λ at octets s by u. u;
    steps = λ id input octets s b plain permits done by u. u;
  }

  usually : (now : ℕ) → HoldsOfEvents user_rules config now (Usually now) AnyInput AnyRequest
  usually now = record {
    links = usual_links now;
    expires = λ id timer s b done by u. u;
    by_rules = record {
      hears = λ m. acts_usual now (event.Heard m);
      times_out = λ timer s may by u. acts_usual now event.T202 (with_stopped timer s) by (record {
        counted = u.counted;
        plain = plain_stopped timer s.served.timers u.plain;
      });
      requested = λ asked s any.
          user_asked (usual_links now) config (by_events config now (Usually now) AnyRequest
          (acts_usual now event.Ask) (acts_usual now event.Want)
          (acts_usual now (λ ri. event.Leave)) (λ pending s a h. h) (λ at s by u. u)) asked s any
          (each_request user_rules s.management asked);
    };
  }

  moment_is_by : (e : SideEvent) → IsBy bound e → moment_or 0 e ≤ bound
  moment_is_by (Take now) by = by
  moment_is_by (Lose at) by = omega arith
  moment_is_by (Expire timer of now) by = by
  moment_is_by (Ask request now) by = by
  moment_is_by (Overhear octets now) by = by

  -- what holds of a user side after any events
  pub record HasUsual (s : User) : Type 0 where
    pub usual : UsualUser s
    pub own : AreOwn s
    pub timer : HasTimerOfTerminal s

  usual_event : (id : LinkId) (x : SideStep) (v : SideView User)
      → (clock ≡ true → IsBy bound x.event) → HasUsual v.now → HasUsual (stepped (user_behaviour
      config) x v).now
  unfolding does
  usual_event id x v by h =
      let w = user_behaviour config in
      let before : SideView User = record v { incoming = v.incoming ++ x.arrives } in
      let at : clock ≡ true → moment_or 0 x.event ≤ bound =
      λ ticks. moment_is_by x.event (by ticks) in
      record {
        usual = reacts {R = Usually} usually 0 x.event before
            (each_event user_rules x.event before) at h.usual;
        own = (user_preserves config before x.event h.own).after;
        timer = user_timer config x.event before h.timer;
      }

  usual_events : (id : LinkId) (xs : List SideStep) (v : SideView User)
      → (clock ≡ true → All (λ x. IsBy bound x.event) xs) → HasUsual v.now
      → HasUsual (stepped_by_all (user_behaviour config) xs v).now
  usual_events id [] v by h = h
  usual_events id (x ∷ xs) v by h =
      let Is : SideStep → Type 0 = λ y. IsBy bound y.event in
      usual_events id xs (stepped (user_behaviour config) x v) (λ ticks. All-tail Is x xs (by
      ticks))
      (usual_event id x v (λ ticks. All-head Is x xs (by ticks)) h)

  new_is_usual : (fixed : Option ℕ) (random : Lcg) → UsualUser (new_user config fixed random)
  new_is_usual None random = record {
    counted = tt;
    plain = record { durations = refl; early = λ ticks d is. cc };
  }
  new_is_usual (Some tei) random = record {
    counted = tt;
    plain = record { durations = refl; early = λ ticks d is. cc };
  }

  pub user_has_usual : (id : LinkId) (fixed : Option ℕ) (random : Lcg) (before : List SideStep)
      → (clock ≡ true → All (λ x. IsBy bound x.event) before)
      → HasUsual (user_after config fixed random before)
  user_has_usual id fixed random before by =
      usual_events id before (new_view (new_user config fixed random)) by (record {
        usual = new_is_usual fixed random;
        own = new_are_own config fixed random;
        timer = new_user_waits config fixed random;
      })
