-- A side answers each request about a link before the link's T200 has expired too often, and in
-- time if no timer is expired too late.
use Rattle.std.proofs.Common.{◌≡◌, ◌⊎◌, inl, inr, ℕ, ◌+◌, ◌-◌, ◌*◌, ◌≤◌, ◌<◌, Bool, true, false, List, [], ◌++◌, Option, Some, None, refl, sym, ap, subst, ◌∙◌, arith}
use Rattle.std.specs.Prelude.{is_some, option_map}
use Rattle.std.specs.List.{list_any}
use Rattle.std.proofs.lemmas.Bool.{cases_lt}
use Rattle.lapd_timers.specs.declared.timer.Timer.TheVariants.{T200}
use Rattle.lapd_timers.specs.Due.{Timers, deadline_of}
use Rattle.lapd_timers.specs.Durations.{Lengths}
use Rattle.lapd_frame.specs.declared.Sapi.{Sapi}
use Rattle.lapd_frame.specs.declared.Sapi.TheVariants as sapi
use Rattle.lapd_frame.specs.declared.Side.{Side}
use Rattle.lapd_mod128.specs.Counting.{Tagged}
use Rattle.lapd_link_definition.specs.End.{runs}
use Rattle.lapd_link_definition.specs.Parameters.{Parameters}
use Rattle.lapd_table.specs.declared.link_id.LinkId.{LinkId}
use Rattle.lapd_sides_links.specs.declared.config.Config.{Config}
use Rattle.lapd_sides_links.specs.declared.running_timer.RunningTimer.{RunningTimer}
use Rattle.lapd_sides_links.specs.Expiries.{IsQuietBefore}
use Rattle.lapd_sides_links.specs.Links.{Linked, Served, Reaction, is_served, parameters_for}
use Rattle.lapd_two_side_laws.specs.Answers.{answers, HasAnswer, expiries_of, KeepsRequest, IsAtMostLate, IsPunctual, Throughout, most_periods}
use Rattle.lapd_two_side_laws.specs.EndAnswers.{Asked, Establishment, Withdrawal, Clearing, request_of, may_release, most_expiries}
use Rattle.lapd_two_side_laws.specs.ExactTimers.{HaveExactTimers, SideStep, stepped_by_all, new_view}
use Rattle.lapd_two_side_laws.specs.Owed.{IsStep}
use Rattle.lapd_side_events.specs.SideView.{Behaviour, SideEvent, Take, Lose, Expire, Ask, Overhear, SideView, runs_on}
use Rattle.lapd_two_side_laws.proofs.EachEvent.{IsClosed, Ways, more_answers, answers_behind, all_go}
use Rattle.lapd_two_side_laws.proofs.EachLink.{HasLinks, after_step}
use Rattle.lapd_two_side_laws.proofs.EndAnswers.{Situation, Establishing, Leaving, Releasing, periods, some_left, at_most, runs_t200, IsOwing, starts}
use Rattle.lapd_two_side_laws.proofs.OwedAnswers.{IsOwed, Owed, owed_is_kept, owed_expires, reported}
use Rattle.lapd_two_side_laws.proofs.UsualLinks.{IsUsual, Usual}
use Rattle.lapd_two_side_laws.proofs.Reactions.{moment_or}

-- ---- The debt of an existing link, and of a side.

has_links : (config : Config) (sapi : Sapi) → is_served config sapi ≡ true → HasLinks sapi
has_links config sapi.Call is = tt
has_links config sapi.Packet is = tt
has_links config sapi.Management is = cc

pub most_left : (asked : Asked) (n : ℕ) (was : Situation) (rc len : ℕ)
    → len + periods asked n was rc * len ≤ most_periods asked n * len
most_left asked n was rc len = product (periods asked n was rc) (most_periods asked n)
    (below asked was)
  where
    below : (asked : Asked) (was : Situation) → periods asked n was rc + 1 ≤ most_periods asked n
    below Establishment was = omega arith
    below Withdrawal Establishing = omega arith
    below Withdrawal Leaving = omega arith
    below Withdrawal Releasing = omega arith
    below Clearing Establishing = omega arith
    below Clearing Leaving = omega arith
    below Clearing Releasing = omega arith

    product : (a b : ℕ) → a + 1 ≤ b → len + a * len ≤ b * len
    product a b h = let m : (a + 1) * len ≤ b * len = grind (arith, h) in grind (arith, m)

there : (o : Option ℕ) → is_some o ≡ true → (deadline : ℕ) × (o ≡ Some deadline)
there (Some deadline) h = (deadline, refl)
there None h = cc

-- a timer that is not overdue
not_overdue : (s : Served) (id : LinkId) (l : Linked) (deadline moment : ℕ) → s.links id ≡ Some l
    → deadline_of T200 l.timers ≡ Some deadline → IsQuietBefore s moment → moment ≤ deadline
not_overdue s id l deadline moment is runs quiet = elim (cases_lt deadline moment) [
  | inl overdue ↦
      let e : RunningTimer = record { timer = T200; of = Some id; deadline = deadline } in
      absurd (quiet deadline overdue e (record {
        runs = record {
          its = l.timers;
          there = ap (option_map (λ (l : Linked). l.timers)) is;
          own = tt;
          until = runs;
        };
        is_past = omega arith;
      }))
  | inr early ↦ early
]

-- a timer that is overdue by the lateness at most
pub quiet_until : (s : Served) (id : LinkId) (l : Linked) (deadline lateness moment : ℕ)
    → s.links id ≡ Some l → deadline_of T200 l.timers ≡ Some deadline
    → IsAtMostLate lateness s moment → moment ≤ deadline + lateness
quiet_until s id l deadline lateness moment is runs quiet =
    omega (arith, not_overdue s id l deadline (moment - lateness) is runs quiet)

module _ (config : Config) (id : LinkId) (asked : Asked) (clock : Bool) (lateness now : ℕ) where
  abbrev pub N200 : ℕ
  N200 = (parameters_for config id.sapi).n200

  abbrev pub T200Length : ℕ
  T200Length = config.durations.t200

  abbrev pub Limit : ℕ
  Limit = now + most_periods asked N200 * (T200Length + lateness)

  abbrev pub Debt : ℕ → ℕ → Option Linked → Type 0
  Debt = Owed asked N200 clock T200Length lateness Limit

  -- the debt at the end of the request
  owing : (l : Linked) → IsOwing asked l.end → is_some (deadline_of T200 l.timers) ≡ runs T200 l.end
      → IsUsual config id clock now now l
      → IsOwed asked N200 clock T200Length lateness Limit (most_expiries asked N200) 0 l
  owing l o exact usual =
      let on = runs_t200 o.was l.end.state l.end.layer3_initiated l.end.release_pending l.end.t200
      o.owed in
      let t = there (deadline_of T200 l.timers) (exact ∙ on) in
      record {
        was = o.was;
        fits = o.fits;
        owed = o.owed;
        n200_is = ap (λ (x : Parameters). x.n200) usual.parameters;
        few = at_most asked N200 o.was l.end.rc;
        deadline = t.0;
        runs = t.1;
        in_time = λ ticks.
            let early = usual.early ticks t.0 t.1 in
            let most = most_left asked N200 o.was l.end.rc (T200Length + lateness) in
            record {
              length_is = ap (λ (d : Lengths). d.t200) usual.durations;
              early = omega arith;
              late = early.1;
              bounded = omega (arith, early.0, most);
            };
      }

  still_running : (m last : ℕ) (l : Option Linked) → runs_on T200 l ≡ false → Debt m last l
      → Debt (m - 1) last l
  still_running m last None off o = absurd o
  still_running m last (Some l) off o =
      let on : is_some (deadline_of T200 l.timers) ≡ true = rw o.runs refl in cc

  pub debt_closed : HasLinks id.sapi → IsClosed id (may_release asked) (answers asked) Debt config
  debt_closed has = record {
    kept = λ m last. owed_is_kept asked N200 clock T200Length lateness Limit id config m last has;
    expires = owed_expires asked N200 clock T200Length lateness Limit;
    absent = λ m less last none. absurd none;
    idle = still_running;
  }

  module _ (S : Type 0) (w : Behaviour S) where
    abbrev pub Link : S → Option Linked
    Link s = (w.served s).links id

    -- by the clock, each event is punctual
    abbrev pub Ready : SideEvent → S → Type 0
    Ready event s = clock ≡ true → IsPunctual lateness w event s

    at_moment : (m last moment : ℕ) (s : S) (l : Option Linked) → Link s ≡ l
        → (clock ≡ true → IsAtMostLate lateness (w.served s) moment) → Debt m last l
        → Debt m moment l
    at_moment m last moment s None is quiet o = absurd o
    at_moment m last moment s (Some l) is quiet o = record {
      was = o.was;
      fits = o.fits;
      owed = o.owed;
      n200_is = o.n200_is;
      few = o.few;
      deadline = o.deadline;
      runs = o.runs;
      in_time = λ ticks.
          let t = o.in_time ticks in
          record {
            length_is = t.length_is;
            early = quiet_until (w.served s) id l o.deadline lateness moment is o.runs
                (quiet ticks);
            late = t.late;
            bounded = t.bounded;
          };
    }

    pub advance : (m last : ℕ) (event : SideEvent) (s : S) → Ready event s → Debt m last (Link s)
        → Debt m (moment_or last event) (Link s)
    advance m last (Take moment) s ready o = at_moment m last moment s (Link s) refl ready o
    advance m last (Lose at) s ready o = o
    advance m last (Expire timer of moment) s ready o =
        at_moment m last moment s (Link s) refl ready o
    advance m last (Ask request moment) s ready o =
        at_moment m last moment s (Link s) refl ready o
    advance m last (Overhear octets moment) s ready o =
        at_moment m last moment s (Link s) refl ready o

    module _ (side : Side) (ways : (HasLinks id.sapi) → Ways id (may_release asked)
        (answers asked) Debt config S w side) (s : S) (a : Reaction S)
        (x : IsStep side id now (request_of asked) [] (λ (t : Timers). t) (w.served s).links
        (w.served a.after).links a.effects) (before : HaveExactTimers (w.served s).links)
        (after : HaveExactTimers (w.served a.after).links)
        (usual : Usual config id clock now 0 now (Link a.after)) where
      abbrev Requested : Linked
      Requested = after_step now x.linked.timers x.done

      is_usual : IsUsual config id clock now now Requested
      is_usual = subst (Usual config id clock now 0 now) x.links usual

      starting : HasAnswer asked id a.effects.primitives
          ⊎ Debt (most_expiries asked N200) 0 (Link a.after)
      starting =
          elim (starts Tagged x.linked.end asked x.done (before id x.linked x.was).of_state x.is) [
            | inl h ↦ inl (subst (λ ws. list_any (answers asked) ws ≡ true) (sym x.delivered)
                (reported asked [] x.done.outs h))
            | inr o ↦ inr (subst (Debt (most_expiries asked N200) 0) (sym x.links)
                (owing Requested o ((after id Requested x.links).exact T200) is_usual))
          ]

      module _ (side_steps : List SideStep) (keeps : KeepsRequest asked side id side_steps)
          (ready : Throughout w Ready side_steps (new_view a.after)) where
        abbrev Last : SideView S
        Last = stepped_by_all w side_steps (new_view a.after)

        -- answered, or the debt is left
        outcome : HasAnswer asked id (a.effects.primitives ++ Last.delivered)
            ⊎ ((last : ℕ) × Debt (most_expiries asked N200 - expiries_of id side_steps) last
            (Link Last.now))
        outcome =
            let has = has_links config id.sapi is_usual.served in
            let closed = debt_closed has in
            elim starting [
              | inl h ↦ inl (more_answers id (may_release asked) (answers asked) Debt config
                  a.effects.primitives Last.delivered h)
              | inr o ↦ elim (all_go id (may_release asked) (answers asked) Debt config S w side
                  closed (ways has) Ready advance side_steps (new_view a.after)
                  (most_expiries asked N200) keeps ready (inr (0, o))) [
                    | inl h ↦ inl (answers_behind id (may_release asked) (answers asked) Debt config
                        a.effects.primitives Last.delivered h)
                    | inr rest ↦ inr rest
                  ]
            ]

        none_left : (m last : ℕ) (l : Option Linked) → m ≡ 0 → Debt m last l → ⊥
        none_left m last None none o = o
        none_left m last (Some l) none o =
            omega (arith, o.few, none, some_left asked N200 o.was l.end.rc)

        pub answered_by_count : most_expiries asked N200 ≤ expiries_of id side_steps
            → HasAnswer asked id (a.effects.primitives ++ Last.delivered)
        answered_by_count enough = elim outcome [
          | inl h ↦ h
          | inr (last, o) ↦ absurd (none_left
              (most_expiries asked N200 - expiries_of id side_steps) last (Link Last.now)
              (omega (arith, enough)) o)
        ]

        none_late : (m last moment : ℕ) (l : Option Linked) → clock ≡ true → Link Last.now ≡ l
            → IsAtMostLate lateness (w.served Last.now) moment → Limit < moment → Debt m last l → ⊥
        none_late m last moment None ticks is quiet late o = o
        none_late m last moment (Some l) ticks is quiet late o =
            let t = o.in_time ticks in
            let early = quiet_until (w.served Last.now) id l o.deadline lateness moment is o.runs
            quiet in
            omega (arith, t.bounded, early, late)

        pub answered_in_time : (moment : ℕ) → clock ≡ true
            → IsAtMostLate lateness (w.served Last.now) moment → Limit < moment
            → HasAnswer asked id (a.effects.primitives ++ Last.delivered)
        answered_in_time moment ticks quiet late = elim outcome [
          | inl h ↦ h
          | inr (last, o) ↦ absurd (none_late
              (most_expiries asked N200 - expiries_of id side_steps) last moment (Link Last.now)
              ticks refl quiet late o)
        ]
