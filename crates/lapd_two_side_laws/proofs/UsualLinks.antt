-- Every link of a side has the parameters and durations of the side's configuration. By the clock,
-- the deadline of its T200 is one period after the last moment, at most.
use Rattle.std.proofs.Common.{◌≡◌, inl, inr, ℕ, ◌+◌, ◌-◌, ◌≤◌, ◌&&◌, Bool, true, false, if◌then◌else◌, List, [], ◌∷◌, Option, Some, None, Ok, refl, ap, subst, ◌∙◌, arith}
use Rattle.std.specs.Prelude.{IfOk}
use Rattle.std.specs.List.{All, list_any}
use Rattle.std.proofs.lemmas.List.Elements.{All-head, All-tail}
use Rattle.rand_pcg.specs.Lcg.{Lcg}
use Rattle.lapd_timers.specs.declared.timer.Timer.{Timer}
use Rattle.lapd_timers.specs.declared.timer.Timer.TheVariants.{T200, T201, T202, T203}
use Rattle.lapd_timers.specs.Due.{Timers, deadline_of, deadline_from, last_moment}
use Rattle.lapd_timers.specs.Durations.{Lengths}
use Rattle.lapd_frame.specs.declared.Side.{Side}
use Rattle.lapd_frame.specs.declared.Side.TheVariants as side
use Rattle.lapd_mod128.specs.Counting.{Tagged}
use Rattle.lapd_link_definition.specs.declared.out.Out.{Out}
use Rattle.lapd_link_definition.specs.declared.out.Out.TheVariants.{Start, Stop}
use Rattle.lapd_link_definition.specs.End.{StepState}
use Rattle.lapd_link_definition.specs.Input.{Input, Expiry}
use Rattle.lapd_link_definition.specs.Table.{step}
use Rattle.lapd_link_definition.proofs.PreservedByStep.{step_preserves_parameters}
use Rattle.lapd_tei.specs.Assigner.{known_held}
use Rattle.lapd_tei.specs.Message.{group_tei}
use Rattle.lapd_table.specs.declared.link_id.LinkId.{LinkId}
use Rattle.lapd_sides_links.specs.declared.config.Config.{Config}
use Rattle.lapd_sides_links.specs.declared.primitive.What.{What}
use Rattle.lapd_sides_links.specs.Effects.{timed, timed_by, stopped}
use Rattle.lapd_sides_links.specs.Links.{Linked, Reaction, is_served, parameters_for, new_linked, is_link_of, with_tei, is_held_below, links_below}
use Rattle.lapd_sides.specs.declared.request.Request.{Request}
use Rattle.lapd_sides.specs.Network.{Network, new_network}
use Rattle.lapd_sides.specs.User.{User, new_user}
use Rattle.lapd_two_side_laws.specs.Answers.{IsBy, Throughout, expiries_of}
use Rattle.lapd_two_side_laws.specs.ExactTimers.{SideStep, stepped, stepped_by_all, new_view}
use Rattle.lapd_side_events.specs.Interface.{network_behaviour, user_behaviour}
use Rattle.lapd_two_side_laws.specs.NewLinks.{network_after, user_after}
use Rattle.lapd_two_side_laws.specs.Primitives.{link_primitives}
use Rattle.lapd_side_events.specs.SideView.{Behaviour, SideEvent, Take, Lose, Expire, Ask, Overhear, SideView}
use Rattle.lapd_two_side_laws.proofs.EachEvent.{IsClosed, GoesAt, network_ways, user_ways, Ways, all_go}
use Rattle.lapd_two_side_laws.proofs.EachLink.{after_step, IsKept}
use Rattle.lapd_two_side_laws.proofs.OwedAnswers.{durations_stay, stopped_durations}
use Rattle.lapd_two_side_laws.proofs.Reactions.{moment_or}

-- no primitive counts as an answer here
abbrev pub none_answers : What → Bool
none_answers w = false

pub impossible : (ws : List What) → list_any none_answers ws ≡ true → ⊥
impossible [] h = cc
impossible (w ∷ ws) h = impossible ws h

module _ (config : Config) (id : LinkId) (clock : Bool) (bound : ℕ) where
  -- the deadline of T200, if it runs
  abbrev pub IsEarly : Timers → Type 0
  IsEarly t = (d : ℕ) → deadline_of T200 t ≡ Some d
      → (d ≤ bound + config.durations.t200) × (d ≤ last_moment)

  pub record IsUsual (now : ℕ) (l : Linked) : Type 0 where
    pub served : is_served config id.sapi ≡ true
    pub parameters : l.end.parameters ≡ parameters_for config id.sapi
    pub durations : l.timers.durations ≡ config.durations
    pub by : clock ≡ true → now ≤ bound
    pub early : clock ≡ true → IsEarly l.timers

  abbrev pub Usual : ℕ → ℕ → Option Linked → Type 0
  Usual m now None = clock ≡ true → now ≤ bound
  Usual m now (Some l) = IsUsual now l

  some_same : (x y : ℕ) → Some x ≡ Some y → x ≡ y
  some_same x y h = cc

  early_by : (now : ℕ) (out : Out) (t : Timers) → now ≤ bound → t.durations ≡ config.durations
      → IsEarly t → IsEarly (timed_by now out t)
  early_by now (Start T200) t by same h d is =
      let length_is : t.durations.t200 ≡ config.durations.t200 =
      ap (λ (x : Lengths). x.t200) same in
      let at : deadline_from now t.durations.t200 ≡ d =
      some_same (deadline_from now t.durations.t200) d is in
      (omega (arith, by, length_is, at), omega (arith, at))
  early_by now (Start T201) t by same h d is = h d is
  early_by now (Start T202) t by same h d is = h d is
  early_by now (Start T203) t by same h d is = h d is
  early_by now (Stop T200) t by same h d is = cc
  early_by now (Stop T201) t by same h d is = h d is
  early_by now (Stop T202) t by same h d is = h d is
  early_by now (Stop T203) t by same h d is = h d is
  early_by now out t by same h d is = h d is

  early_after : (now : ℕ) (outs : List Out) (t : Timers) → now ≤ bound
      → t.durations ≡ config.durations → IsEarly t → IsEarly (timed now outs t)
  early_after now [] t by same h = h
  early_after now (out ∷ outs) t by same h =
      early_after now outs (timed_by now out t) by
      (durations_stay now (out ∷ []) t ∙ same) (early_by now out t by same h)

  early_stopped : (timer : Timer) (t : Timers) → IsEarly t → IsEarly (stopped timer t)
  early_stopped T200 t h d is = cc
  early_stopped T201 t h d is = h d is
  early_stopped T202 t h d is = h d is
  early_stopped T203 t h d is = h d is

  stays_usual : (now : ℕ) (input : Input) (l : Linked) (timers : Timers) (s : StepState)
      → timers.durations ≡ l.timers.durations → (IsEarly l.timers → IsEarly timers)
      → IsUsual now l → step Tagged input l.end ≡ Ok s → IsUsual now (after_step now timers s)
  stays_usual now input l timers s same early u done = record {
    served = u.served;
    parameters = step_preserves_parameters Tagged input l.end s done ∙ u.parameters;
    durations = durations_stay now s.outs timers ∙ same ∙ u.durations;
    by = u.by;
    early = λ ticks. early_after now s.outs timers (u.by ticks) (same ∙ u.durations)
        (early (u.early ticks));
  }

  fresh_usual : (now : ℕ) → is_served config id.sapi ≡ true → (clock ≡ true → now ≤ bound)
      → IsUsual now (new_linked (parameters_for config id.sapi) config.durations)
  fresh_usual now is by = record {
    served = is;
    parameters = refl;
    durations = refl;
    by = by;
    early = λ ticks d runs. cc;
  }

  kept_usual : (m now : ℕ) → IsKept id true (Usual m now) none_answers config now
  kept_usual m now = record {
    steps = λ input octets l s plain permits u done.
        inr (stays_usual now input l l.timers s refl (λ h. h) u done);
    removed = λ l u. inr u.by;
    joins = λ is by. fresh_usual now is by;
  }

  expires_usual : (m now : ℕ) (timer : Timer) (l : Linked) (s : StepState)
      → Usual m now (Some l) → step Tagged (Expiry timer) l.end ≡ Ok s
      → IsUsual now (after_step now (stopped timer l.timers) s)
  expires_usual m now timer l s u done =
      stays_usual now (Expiry timer) l (stopped timer l.timers) s
      (stopped_durations timer l.timers) (early_stopped timer l.timers) u done

  idle_usual : (m now : ℕ) (l : Option Linked) → Usual m now l → Usual (m - 1) now l
  idle_usual m now None u = u
  idle_usual m now (Some l) u = u

  pub usual_closed : IsClosed id true none_answers Usual config
  usual_closed = record {
    kept = kept_usual;
    expires = λ m now timer l s u done. inr (expires_usual m now timer l s u done);
    absent = λ m less now by. by;
    idle = λ m now l off u. idle_usual m now l u;
  }

  -- no event is later than the bound
  abbrev pub Comes : {S : Type 0} → SideEvent → S → Type 0
  Comes event s = clock ≡ true → IsBy bound event

  later : (m last now : ℕ) (l : Option Linked) → (clock ≡ true → now ≤ bound) → Usual m last l
      → Usual m now l
  later m last now None by u = by
  later m last now (Some l) by u = record {
    served = u.served;
    parameters = u.parameters;
    durations = u.durations;
    by = by;
    early = u.early;
  }

  module _ (S : Type 0) (w : Behaviour S) where
    comes : (m last : ℕ) (event : SideEvent) (s : S) → Comes event s
        → Usual m last ((w.served s).links id)
        → Usual m (moment_or last event) ((w.served s).links id)
    comes m last (Take now) s by u = later m last now ((w.served s).links id) by u
    comes m last (Lose at) s by u = u
    comes m last (Expire timer of now) s by u = later m last now ((w.served s).links id) by u
    comes m last (Ask request now) s by u = later m last now ((w.served s).links id) by u
    comes m last (Overhear octets now) s by u = later m last now ((w.served s).links id) by u

    throughout : (side_steps : List SideStep) (v : SideView S)
        → (clock ≡ true → All (λ x. IsBy bound x.event) side_steps)
        → Throughout w Comes side_steps v
    throughout [] v by = tt
    throughout (x ∷ xs) v by =
        let Is : SideStep → Type 0 = λ y. IsBy bound y.event in (
          λ ticks. All-head Is x xs (by ticks),
          throughout xs (stepped w x v)
              (λ ticks. All-tail Is x xs (by ticks)),
        )

    -- after any events
    usual_after : (side_of : Side) → Ways id true none_answers Usual config S w side_of
        → (side_steps : List SideStep) (s : S)
        → (clock ≡ true → All (λ x. IsBy bound x.event) side_steps)
        → Usual 0 0 ((w.served s).links id)
        → Usual 0 bound ((w.served (stepped_by_all w side_steps (new_view s)).now).links id)
    usual_after side_of ways side_steps s by u =
        elim (all_go id true none_answers Usual config S w side_of usual_closed ways Comes comes
        side_steps (new_view s) 0 (λ no. cc) (throughout side_steps (new_view s) by)
        (inr (0, u))) [
          | inl h ↦ absurd (impossible (link_primitives id
              (stepped_by_all w side_steps (new_view s)).delivered) h)
          | inr (last, v) ↦ later 0 last bound _ (λ ticks. omega arith) (same_m last v)
        ]
      where
        same_m : (last : ℕ)
            → Usual (0 - expiries_of id side_steps) last
            ((w.served (stepped_by_all w side_steps (new_view s)).now).links id)
            → Usual 0 last ((w.served (stepped_by_all w side_steps (new_view s)).now).links id)
        same_m last v =
            let none : 0 - expiries_of id side_steps ≡ 0 = omega arith in
            subst (λ k. Usual k last
            ((w.served (stepped_by_all w side_steps (new_view s)).now).links id)) none v

    -- and after a request
    pub request_usual : (side_of : Side) → Ways id true none_answers Usual config S w side_of
        → (request : Request) (s : S) (a : Reaction S) → w.requested request bound s ≡ Ok a
        → Usual 0 bound ((w.served s).links id) → Usual 0 bound ((w.served a.after).links id)
    request_usual side_of ways request s a done u =
        elim (subst (λ r. IfOk r (λ (x : Reaction S). Usual 0 bound ((w.served s).links id)
        → GoesAt id true none_answers Usual config S w 0 bound x)) done
        (ways.requested 0 bound request s (λ no. cc)) u) [
          | inl h ↦ absurd (impossible (link_primitives id a.effects.primitives) h)
          | inr v ↦ v
        ]

  fresh_or_none : (test : Bool) → (test ≡ true → is_served config id.sapi ≡ true)
      → Usual 0 0
      (if test then Some (new_linked (parameters_for config id.sapi) config.durations) else None)
  fresh_or_none true is = fresh_usual 0 (is refl) (λ ticks. omega arith)
  fresh_or_none false is = λ ticks. omega arith

  first_is : (a b : Bool) → (a && b) ≡ true → a ≡ true
  first_is true b h = refl
  first_is false b h = cc

  new_network_usual : (known : List ℕ)
      → Usual 0 0 ((new_network config known).served.links id)
  unfolding links_below
  new_network_usual known =
      fresh_or_none (is_served config id.sapi
      && is_held_below (known_held known).held group_tei id.tei) (first_is _ _)

  new_user_usual : (fixed : Option ℕ) (random : Lcg)
      → Usual 0 0 ((new_user config fixed random).served.links id)
  unfolding with_tei
  new_user_usual None random = λ ticks. omega arith
  new_user_usual (Some tei) random = fresh_or_none (is_link_of config tei id) (first_is _ _)

  pub network_usual : (known : List ℕ) (side_steps : List SideStep)
      → (clock ≡ true → All (λ x. IsBy bound x.event) side_steps)
      → Usual 0 bound ((network_after config known side_steps).served.links id)
  network_usual known side_steps by =
      usual_after Network (network_behaviour config) side.Network
      (network_ways id true none_answers Usual config usual_closed) side_steps
      (new_network config known) by (new_network_usual known)

  pub user_usual : (fixed : Option ℕ) (random : Lcg) (side_steps : List SideStep)
      → (clock ≡ true → All (λ x. IsBy bound x.event) side_steps)
      → Usual 0 bound ((user_after config fixed random side_steps).served.links id)
  user_usual fixed random side_steps by =
      usual_after User (user_behaviour config) side.User
      (user_ways id true none_answers Usual config usual_closed) side_steps
      (new_user config fixed random) by (new_user_usual fixed random)
