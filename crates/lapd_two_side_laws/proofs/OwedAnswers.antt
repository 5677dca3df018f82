-- A link that owes layer 3 an answer: with few expiries of T200 left, and, by the clock, with T200
-- early enough. Each of its steps keeps this, or is the answer.
use Rattle.std.proofs.Common.{◌≡◌, ◌⊎◌, inl, inr, ℕ, ◌+◌, ◌-◌, ◌*◌, ◌≤◌, Bool, true, false, List, [], ◌∷◌, ◌++◌, Option, Some, None, Ok, refl, ap, ◌∙◌, arith}
use Rattle.std.specs.Prelude.{◌||◌}
use Rattle.std.specs.List.{filter_map, list_any}
use Rattle.std.proofs.lemmas.Bool.{or_right}
use Rattle.lapd_timers.specs.declared.timer.Timer.{Timer}
use Rattle.lapd_timers.specs.declared.timer.Timer.TheVariants.{T200, T201, T202, T203}
use Rattle.lapd_timers.specs.Due.{Timers, deadline_of, deadline_from, last_moment}
use Rattle.lapd_timers.specs.Durations.{Lengths}
use Rattle.lapd_mod128.specs.Counting.{Tagged}
use Rattle.lapd_link_definition.specs.declared.out.Out.{Out}
use Rattle.lapd_link_definition.specs.declared.out.Out.TheVariants.{Send, SendMessage, SendUnit, Up, UnitUp, Established, Confirmed, Released, ReleaseConfirm, Acknowledged, Dropped, Start, Stop, Report}
use Rattle.lapd_link_definition.specs.declared.state.State.{State}
use Rattle.lapd_link_definition.specs.End.{StepState}
use Rattle.lapd_link_definition.specs.Input.{Input, Expiry}
use Rattle.lapd_link_definition.specs.Parameters.{Parameters}
use Rattle.lapd_link_definition.specs.Table.{step}
use Rattle.lapd_link_definition.proofs.PreservedByStep.{step_preserves_parameters}
use Rattle.lapd_table.specs.declared.link_id.LinkId.{LinkId}
use Rattle.lapd_sides_links.specs.declared.config.Config.{Config}
use Rattle.lapd_sides_links.specs.declared.primitive.What.{What}
use Rattle.lapd_sides_links.specs.declared.primitive.What.TheVariants as what
use Rattle.lapd_sides_links.specs.Effects.{what_of, timed, timed_by, stopped}
use Rattle.lapd_sides_links.specs.Links.{Linked, release_at_removal}
use Rattle.lapd_two_side_laws.specs.Answers.{answers}
use Rattle.lapd_two_side_laws.specs.EndAnswers.{Asked, Establishment, Withdrawal, Clearing, may_release, is_answer, is_answered, is_t200_expiry, is_release}
use Rattle.lapd_two_side_laws.proofs.EachLink.{HasLinks, after_step, IsKept}
use Rattle.lapd_two_side_laws.proofs.EndAnswers.{Situation, Establishing, Leaving, Releasing, Owes, OwesBy, IsIn, left, periods, IsNoT200, LeaveT200, RestartT200, Next, one_expiry, next_of, goes_on}

-- ---- The deadline of T200 after the outputs of a step.

t200_by : (now : ℕ) (out : Out) (t : Timers) → IsNoT200 out
    → deadline_of T200 (timed_by now out t) ≡ deadline_of T200 t
t200_by now (Start T200) t h = absurd h
t200_by now (Start T201) t h = refl
t200_by now (Start T202) t h = refl
t200_by now (Start T203) t h = refl
t200_by now (Stop T200) t h = absurd h
t200_by now (Stop T201) t h = refl
t200_by now (Stop T202) t h = refl
t200_by now (Stop T203) t h = refl
t200_by now out t h = refl

durations_by : (now : ℕ) (out : Out) (t : Timers) → (timed_by now out t).durations ≡ t.durations
durations_by now (Start T200) t = refl
durations_by now (Start T201) t = refl
durations_by now (Start T202) t = refl
durations_by now (Start T203) t = refl
durations_by now (Stop T200) t = refl
durations_by now (Stop T201) t = refl
durations_by now (Stop T202) t = refl
durations_by now (Stop T203) t = refl
durations_by now out t = refl

pub durations_stay : (now : ℕ) (outs : List Out) (t : Timers)
    → (timed now outs t).durations ≡ t.durations
durations_stay now [] t = refl
durations_stay now (out ∷ outs) t =
    durations_stay now outs (timed_by now out t) ∙ durations_by now out t

left_running : (now : ℕ) (outs : List Out) (t : Timers) → LeaveT200 outs
    → deadline_of T200 (timed now outs t) ≡ deadline_of T200 t
left_running now [] t h = refl
left_running now (out ∷ outs) t h =
    left_running now outs (timed_by now out t) h.1 ∙ t200_by now out t h.0

started_last : (now : ℕ) (before : List Out) (t : Timers)
    → deadline_of T200 (timed now (before ++ Start T200 ∷ []) t)
    ≡ Some (deadline_from now t.durations.t200)
started_last now [] t = refl
started_last now (out ∷ outs) t =
    started_last now outs (timed_by now out t)
    ∙ ap (λ (d : Lengths). Some (deadline_from now d.t200)) (durations_by now out t)

restarted_at : (now : ℕ) (outs : List Out) (t : Timers) → RestartT200 outs
    → deadline_of T200 (timed now outs t) ≡ Some (deadline_from now t.durations.t200)
restarted_at now outs t h =
    ap (λ xs. deadline_of T200 (timed now xs t)) h.same ∙ started_last now h.before t

stopped_other : (timer : Timer) (t : Timers) → is_t200_expiry (Expiry timer) ≡ false
    → deadline_of T200 (stopped timer t) ≡ deadline_of T200 t
stopped_other T200 t h = cc
stopped_other T201 t h = refl
stopped_other T202 t h = refl
stopped_other T203 t h = refl

pub stopped_durations : (timer : Timer) (t : Timers) → (stopped timer t).durations ≡ t.durations
stopped_durations T200 t = refl
stopped_durations T201 t = refl
stopped_durations T202 t = refl
stopped_durations T203 t = refl

-- ---- Answers among the outputs, and among the primitives.

both_kinds : (a b x y : Bool) → a ≡ b → (x ≡ true → y ≡ true) → (a || x) ≡ true → (b || y) ≡ true
both_kinds true true x y same more h = refl
both_kinds true false x y same more h = cc
both_kinds false true x y same more h = refl
both_kinds false false x y same more h = more h

behind_other : (a x : Bool) → a ≡ false → (a || x) ≡ true → x ≡ true
behind_other true x none h = cc
behind_other false x none h = h

module _ (asked : Asked) (octets : List ℕ) where
  confirms : (asked : Asked) → is_answer asked Confirmed ≡ answers asked what.Confirmed
  confirms Establishment = refl
  confirms Withdrawal = refl
  confirms Clearing = refl

  releases : (asked : Asked) → is_answer asked Released ≡ answers asked what.Released
  releases Establishment = refl
  releases Withdrawal = refl
  releases Clearing = refl

  confirms_release : (asked : Asked)
      → is_answer asked ReleaseConfirm ≡ answers asked what.ReleaseConfirm
  confirms_release Establishment = refl
  confirms_release Withdrawal = refl
  confirms_release Clearing = refl

  -- an output that answers nothing
  abbrev IsNoAnswer : Out → Type 0
  IsNoAnswer Confirmed = ⊥
  IsNoAnswer Released = ⊥
  IsNoAnswer ReleaseConfirm = ⊥
  IsNoAnswer out = Unit {0}

  answers_nothing : (asked : Asked) (out : Out) → IsNoAnswer out → is_answer asked out ≡ false
  answers_nothing Establishment Confirmed h = absurd h
  answers_nothing Establishment Released h = absurd h
  answers_nothing Establishment out h = refl
  answers_nothing Withdrawal Confirmed h = absurd h
  answers_nothing Withdrawal Released h = absurd h
  answers_nothing Withdrawal ReleaseConfirm h = absurd h
  answers_nothing Withdrawal out h = refl
  answers_nothing Clearing ReleaseConfirm h = absurd h
  answers_nothing Clearing out h = refl

  abbrev Reports : List Out → Type 0
  Reports outs = list_any (answers asked) (filter_map (what_of octets) outs) ≡ true

  -- the rest holds the answer
  rest : (out : Out) (outs : List Out) → IsNoAnswer out → is_answered asked (out ∷ outs) ≡ true
      → is_answered asked outs ≡ true
  rest out outs none h =
      behind_other (is_answer asked out) (is_answered asked outs) (answers_nothing asked out none) h

  pub reported : (outs : List Out) → is_answered asked outs ≡ true → Reports outs
  reported [] h = cc
  reported (Confirmed ∷ outs) h = both_kinds _ _ _ _ (confirms asked) (reported outs) h
  reported (Released ∷ outs) h = both_kinds _ _ _ _ (releases asked) (reported outs) h
  reported (ReleaseConfirm ∷ outs) h =
      both_kinds _ _ _ _ (confirms_release asked) (reported outs) h
  reported (Send role control ∷ outs) h = reported outs (rest (Send role control) outs tt h)
  reported (SendMessage n control ∷ outs) h =
      reported outs (rest (SendMessage n control) outs tt h)
  reported (SendUnit ∷ outs) h = reported outs (rest SendUnit outs tt h)
  reported (Up ∷ outs) h = or_right _ _ (reported outs (rest Up outs tt h))
  reported (UnitUp ∷ outs) h = or_right _ _ (reported outs (rest UnitUp outs tt h))
  reported (Established ∷ outs) h = or_right _ _ (reported outs (rest Established outs tt h))
  reported (Acknowledged n ∷ outs) h =
      or_right _ _ (reported outs (rest (Acknowledged n) outs tt h))
  reported (Dropped n ∷ outs) h = or_right _ _ (reported outs (rest (Dropped n) outs tt h))
  reported (Start timer ∷ outs) h = reported outs (rest (Start timer) outs tt h)
  reported (Stop timer ∷ outs) h = reported outs (rest (Stop timer) outs tt h)
  reported (Report letter ∷ outs) h = or_right _ _ (reported outs (rest (Report letter) outs tt h))

-- ---- A removed link reports the answer.

reports_removal : (asked : Asked) (was : Situation) (state : State) (a b t200 : Bool)
    → IsIn asked was → OwesBy was state a b t200
    → list_any (answers asked)
    (filter_map (λ (w : Option What). w) (release_at_removal state b ∷ [])) ≡ true
reports_removal Establishment Establishing state a b t200 fits h = rw (h.0, h.2) refl
reports_removal Establishment Leaving state a b t200 fits h = absurd fits
reports_removal Establishment Releasing state a b t200 fits h = absurd fits
reports_removal Withdrawal Establishing state a b t200 fits h = rw (h.0, h.2) refl
reports_removal Withdrawal Leaving state a b t200 fits h = rw (h.0, h.1) refl
reports_removal Withdrawal Releasing state a b t200 fits h = rw h.0 refl
reports_removal Clearing Establishing state a b t200 fits h = absurd fits
reports_removal Clearing Leaving state a b t200 fits h = rw (h.0, h.1) refl
reports_removal Clearing Releasing state a b t200 fits h = rw h.0 refl

-- ---- The debt.

product_below : (a b len : ℕ) → a ≤ b → a * len ≤ b * len
product_below a b len h = grind (arith, h)

product_less : (a b len : ℕ) → a + 1 ≤ b → len + a * len ≤ b * len
product_less a b len h = grind (arith, product_below (a + 1) b len h)

-- now, the deadline of T200, the periods left after it, and the length of each; each ends at most
-- `lateness` after its deadline, and the last of them at `limit` at the latest
pub record IsInTime (len lateness limit now more deadline : ℕ) (t : Timers) : Type 0 where
  pub length_is : t.durations.t200 ≡ len
  pub early : now ≤ deadline + lateness
  pub late : deadline ≤ last_moment
  pub bounded : deadline + lateness + more * (len + lateness) ≤ limit

module _ (asked : Asked) (n : ℕ) (clock : Bool) (len lateness limit : ℕ) where
  -- at most m more expiries; with `clock`, in time
  pub record IsOwed (m now : ℕ) (l : Linked) : Type 0 where
    pub was : Situation
    pub fits : IsIn asked was
    pub owed : Owes was l.end
    pub n200_is : l.end.parameters.n200 ≡ n
    pub few : left asked n was l.end.rc ≤ m
    pub deadline : ℕ
    pub runs : deadline_of T200 l.timers ≡ Some deadline
    pub in_time : clock ≡ true
        → IsInTime len lateness limit now (periods asked n was l.end.rc) deadline l.timers

  abbrev pub Owed : ℕ → ℕ → Option Linked → Type 0
  Owed m now None = ⊥
  Owed m now (Some l) = IsOwed m now l

  pub with_more : (m more now : ℕ) (l : Linked) → m ≤ more → IsOwed m now l → IsOwed more now l
  with_more m more now l h o = record {
    was = o.was;
    fits = o.fits;
    owed = o.owed;
    n200_is = o.n200_is;
    few = omega (arith, o.few, h);
    deadline = o.deadline;
    runs = o.runs;
    in_time = o.in_time;
  }

  module _ (m now : ℕ) (input : Input) (l : Linked) (timers : Timers) (s : StepState)
      (o : IsOwed m now l)
      (same_t200 : is_t200_expiry input ≡ false
      → deadline_of T200 timers ≡ deadline_of T200 l.timers)
      (same_durations : timers.durations ≡ l.timers.durations) where
    abbrev Spent : ℕ
    Spent = m - one_expiry input

    continued : s.end.parameters.n200 ≡ n → Next asked n o.was input l.end s
        → IsOwed Spent now (after_step now timers s)
    continued same next = elim next.timer [
      | inl h ↦ record {
        was = next.now;
        fits = next.fits;
        owed = next.owed;
        n200_is = same;
        few = omega (arith, next.fewer, o.few);
        deadline = o.deadline;
        runs = left_running now s.outs timers h.1 ∙ same_t200 h.0 ∙ o.runs;
        in_time = λ ticks.
            let t = o.in_time ticks in
            let less = product_below (periods asked n next.now s.end.rc)
            (periods asked n o.was l.end.rc) (len + lateness) h.2 in
            record {
              length_is = ap (λ (d : Lengths). d.t200)
                  (durations_stay now s.outs timers ∙ same_durations) ∙ t.length_is;
              early = t.early;
              late = t.late;
              bounded = omega (arith, t.bounded, less);
            };
      }
      | inr h ↦ record {
        was = next.now;
        fits = next.fits;
        owed = next.owed;
        n200_is = same;
        few = omega (arith, next.fewer, o.few);
        deadline = deadline_from now timers.durations.t200;
        runs = restarted_at now s.outs timers h.0;
        in_time = λ ticks.
            let t = o.in_time ticks in
            let is : timers.durations.t200 ≡ len =
            ap (λ (d : Lengths). d.t200) same_durations ∙ t.length_is in
            let less = product_less (periods asked n next.now s.end.rc)
            (periods asked n o.was l.end.rc) (len + lateness) h.1 in
            record {
              length_is = ap (λ (d : Lengths). d.t200) (durations_stay now s.outs timers) ∙ is;
              early = omega (arith, t.early, t.late);
              late = omega arith;
              bounded = omega (arith, t.bounded, t.early, less, is);
            };
      }
    ]

    pub owed_goes : (may_release asked ≡ false → is_release input ≡ false)
        → step Tagged input l.end ≡ Ok s
        → (is_answered asked s.outs ≡ true) ⊎ IsOwed Spent now (after_step now timers s)
    owed_goes permits done =
        let same : s.end.parameters.n200 ≡ n =
        ap (λ (x : Parameters). x.n200)
        (step_preserves_parameters Tagged input l.end s done) ∙ o.n200_is in
        elim (next_of asked n o.was input l.end s o.fits o.n200_is permits
        (goes_on Tagged o.was input l.end s o.owed done)) [
          | inl h ↦ inl h
          | inr next ↦ inr (continued same next)
        ]

  pub owed_is_kept : (id : LinkId) (config : Config) (m now : ℕ) → HasLinks id.sapi
      → IsKept id (may_release asked) (Owed m now) (answers asked) config now
  owed_is_kept id config m now has = record {
    steps = λ input octets l s plain permits o done.
        elim (owed_goes m now input l l.timers s o (λ other. refl) refl permits done) [
          | inl h ↦ inl (reported asked octets s.outs h)
          | inr next ↦ inr (with_more (m - one_expiry input) m now (after_step now l.timers s)
              (omega arith) next)
        ];
    removed = λ l o. inl (
      has,
      reports_removal asked o.was l.end.state l.end.layer3_initiated
          l.end.release_pending l.end.t200 o.fits o.owed,
    );
    joins = λ served none. absurd none;
  }

  pub owed_expires : (m now : ℕ) (timer : Timer) (l : Linked) (s : StepState)
      → Owed m now (Some l) → step Tagged (Expiry timer) l.end ≡ Ok s
      → (list_any (answers asked) (filter_map (what_of []) s.outs) ≡ true)
      ⊎ Owed (m - one_expiry (Expiry timer)) now (Some (after_step now (stopped timer l.timers) s))
  owed_expires m now timer l s o done =
      elim (owed_goes m now (Expiry timer) l (stopped timer l.timers) s o
      (stopped_other timer l.timers) (stopped_durations timer l.timers) (λ _. refl) done) [
        | inl h ↦ inl (reported asked [] s.outs h)
        | inr next ↦ inr next
      ]
