-- The worked runs of requests, computed.
use Rattle.std.proofs.Common.{◌≡◌, ℕ, ◌≤◌, ◌<◌, List, [], ◌∷◌, ◌++◌, Option, Some, None, Ok, Bool, true, false, if◌then◌else◌, refl, sym, subst, ◌∙◌, arith}
use Rattle.lapd_sides.specs.User.{user_requested}
use Rattle.lapd_frame.specs.declared.Sapi.TheVariants.{Call}
use Rattle.lapd_link_definition.specs.declared.out.Letter.TheVariants as letter
use Rattle.lapd_sides_links.specs.Links.{of_sapi}
use Rattle.lapd_sides_links.specs.declared.primitive.Primitive.TheVariants.{Of, Management}
use Rattle.lapd_sides_links.specs.declared.primitive.What.TheVariants as what
use Rattle.lapd_tei.specs.declared.out.TeiOut.TheVariants as outcome
use Rattle.lapd_sides.specs.declared.request.Request.TheVariants as request
use Rattle.lapd_sides.specs.Worked as sides
use Rattle.lapd_two_side_laws.specs.AnswerRuns.{alone, t200_at, user_with, primitives_of_run, establishing, three_expiries, three_late_expiries, releasing, six_expiries, seeking, assignment, late_assignment, arriving, withdrawing, backwards}
use Rattle.lapd_two_side_laws.specs.Schedule.{call}
use Rattle.std.specs.Prelude.{option_map}
use Rattle.lapd_timers.specs.declared.timer.Timer.{Timer}
use Rattle.lapd_timers.specs.declared.timer.Timer.TheVariants.{T200, T201, T202, T203}
use Rattle.lapd_timers.specs.Due.{Timers, deadline_of, all_stopped}
use Rattle.lapd_timers.specs.Durations.{standard_lengths}
use Rattle.lapd_link_definition.specs.Parameters.{Parameters}
use Rattle.lapd_table.specs.declared.link_id.LinkId.{LinkId}
use Rattle.lapd_table.specs.LinkId.{id_eq}
use Rattle.lapd_table.proofs.Ids.{same_id_eq}
use Rattle.lapd_sides_links.specs.declared.running_timer.RunningTimer.{RunningTimer}
use Rattle.lapd_sides_links.specs.Expiries.{IsTimerOf, of_served, IsQuietBefore}
use Rattle.lapd_sides_links.specs.Links.{Linked, Links, Served, IsOfLink, is_link_of, parameters_for, new_linked}
use Rattle.lapd_two_side_laws.specs.Answers.{AreExpiredInTime, after_request}
use Rattle.lapd_sides.specs.User.{User}
use Rattle.lapd_sides_links.specs.Links.{Reaction}
use Rattle.lapd_two_side_laws.specs.ExactTimers.{SideStep}
use Rattle.lapd_side_events.specs.Interface.{user_behaviour}
use Rattle.lapd_side_events.specs.SideView.{Expire, Ask}
use Rattle.lapd_two_side_laws.proofs.ComputedEvents.{computed_events}

pub record AreReached : Type 0 where
  pub establish_accepted : user_requested sides.both_sapis (request.Establish call) 0
      (user_with (Some 64) []) ≡ Ok establishing
  pub establish_waits : primitives_of_run establishing three_expiries ≡ []
  pub establish_ends : primitives_of_run establishing (three_expiries ++ t200_at (4000 ∷ []))
      ≡ Of call (what.Report letter.G) ∷ Of call what.Released ∷ []
  pub late_waits : primitives_of_run establishing three_late_expiries ≡ []
  pub late_ends : primitives_of_run establishing (three_late_expiries ++ t200_at (4040 ∷ []))
      ≡ Of call (what.Report letter.G) ∷ Of call what.Released ∷ []
  pub release_accepted : user_requested sides.both_sapis (request.Release call) 0
      (user_with (Some 64) (alone (Ask (request.Establish call) 0) ∷ [])) ≡ Ok releasing
  pub release_waits : primitives_of_run releasing six_expiries ≡ []
  pub release_ends : primitives_of_run releasing (six_expiries ++ t200_at (8000 ∷ []))
      ≡ Of call (what.Report letter.H) ∷ Of call what.ReleaseConfirm ∷ []
  pub without_tei_accepted : user_requested sides.both_sapis
      (request.Establish (of_sapi Call 0)) 0 (user_with None []) ≡ Ok seeking
  pub without_tei_waits : primitives_of_run seeking late_assignment
      ≡ Management (outcome.Got 64) ∷ []
  pub without_tei_ends :
      primitives_of_run seeking (late_assignment ++ t200_at (10000 ∷ []))
      ≡ Management (outcome.Got 64) ∷ Of call (what.Report letter.G) ∷ Of call what.Released ∷ []
  pub withdrawn : primitives_of_run establishing withdrawing
      ≡ Of call (what.Report letter.G) ∷ Of call what.ReleaseConfirm ∷ []
  pub backwards_accepted : user_requested sides.both_sapis (request.Establish call) 0
      (user_with (Some 64) (alone (Ask (request.Establish call) 5000) ∷ [])) ≡ Ok backwards
  pub backwards_waits : primitives_of_run backwards [] ≡ []

pub are_reached : AreReached
unfolding computed_events
are_reached = record {
  establish_accepted = refl;
  establish_waits = refl;
  establish_ends = refl;
  late_waits = refl;
  late_ends = refl;
  release_accepted = refl;
  release_waits = refl;
  release_ends = refl;
  without_tei_accepted = refl;
  without_tei_waits = refl;
  without_tei_ends = refl;
  withdrawn = refl;
  backwards_accepted = refl;
  backwards_waits = refl;
}

-- ---- All timers are expired in time.

-- a deadline that is not before this moment
abbrev IsLate : ℕ → Option ℕ → Type 0
IsLate moment deadline = (d : ℕ) → deadline ≡ Some d → moment ≤ d

none_late : (moment : ℕ) → IsLate moment None
none_late moment d is = cc

some_late : (moment deadline : ℕ) → moment ≤ deadline → IsLate moment (Some deadline)
some_late moment deadline h d is = let same : deadline ≡ d = cc in omega (arith, h, same)

abbrev LinkIsLate : ℕ → Option Linked → Type 0
LinkIsLate moment None = Unit {0}
LinkIsLate moment (Some l) = IsLate moment l.timers.t200 × IsLate moment l.timers.t203

-- all four timers
abbrev AreLate : ℕ → Timers → Type 0
AreLate moment t = IsLate moment t.t200 × IsLate moment t.t201 × IsLate moment t.t202
    × IsLate moment t.t203

of_timer : (moment : ℕ) (t : Timers) (timer : Timer) → AreLate moment t
    → IsLate moment (deadline_of timer t)
of_timer moment t T200 h = h.0
of_timer moment t T201 h = h.1
of_timer moment t T202 h = h.2
of_timer moment t T203 h = h.3

of_a_link : (moment : ℕ) (o : Option Linked) (its : Timers) (timer : Timer) → LinkIsLate moment o
    → IsOfLink timer → option_map (λ (l : Linked). l.timers) o ≡ Some its
    → IsLate moment (deadline_of timer its)
of_a_link moment None its timer h own is = cc
of_a_link moment (Some l) its T200 h own is =
    let same : l.timers ≡ its = cc in subst (λ (t : Timers). IsLate moment t.t200) same h.0
of_a_link moment (Some l) its T201 h own is = absurd own
of_a_link moment (Some l) its T202 h own is = absurd own
of_a_link moment (Some l) its T203 h own is =
    let same : l.timers ≡ its = cc in subst (λ (t : Timers). IsLate moment t.t203) same h.1

by_owner : (s : Served) (moment now : ℕ) (e : RunningTimer) (of : Option LinkId)
    → ((id : LinkId) → LinkIsLate moment (s.links id)) → AreLate moment s.timers → now < moment
    → e.of ≡ of → IsTimerOf of e.timer → (its : Timers) → of_served s of ≡ Some its
    → deadline_of e.timer its ≡ Some e.deadline → e.deadline ≤ now → ⊥
by_owner s moment now e None links timers early is own its there until past =
    let same : s.timers ≡ its = cc in
    let late = of_timer moment its e.timer (subst (AreLate moment) same timers) e.deadline until in
    omega (arith, late, early, past)
by_owner s moment now e (Some id) links timers early is own its there until past =
    let late = of_a_link moment (s.links id) its e.timer (links id) own there e.deadline until in
    omega (arith, late, early, past)

quiet_if : (s : Served) (moment : ℕ) → ((id : LinkId) → LinkIsLate moment (s.links id))
    → AreLate moment s.timers → IsQuietBefore s moment
quiet_if s moment links timers now early e past =
    by_owner s moment now e e.of links timers early refl past.runs.own past.runs.its
    past.runs.there past.runs.until past.is_past

-- the call link, and others that have no running timer
abbrev IsIdle : Option Linked → Type 0
IsIdle None = Unit {0}
IsIdle (Some l) = (l.timers.t200 ≡ None) × (l.timers.t203 ≡ None)

idle_is_late : (moment : ℕ) (o : Option Linked) → IsIdle o → LinkIsLate moment o
idle_is_late moment None h = tt
idle_is_late moment (Some l) h =
    (λ d is. (let no = sym h.0 ∙ is in cc), λ d is. (let no = sym h.1 ∙ is in cc))

call_or_other : (moment : ℕ) (links : Links) (id : LinkId) (test : Bool) → id_eq id call ≡ test
    → LinkIsLate moment (links call) → (id_eq id call ≡ false → IsIdle (links id))
    → LinkIsLate moment (links id)
call_or_other moment links id true same h other =
    subst (λ (k : LinkId). LinkIsLate moment (links k)) (sym (same_id_eq id call same)) h
call_or_other moment links id false apart h other = idle_is_late moment (links id) (other apart)

quiet_with : (s : Served) (moment : ℕ) → LinkIsLate moment (s.links call)
    → ((id : LinkId) → id_eq id call ≡ false → IsIdle (s.links id)) → AreLate moment s.timers
    → IsQuietBefore s moment
quiet_with s moment h others timers =
    quiet_if s moment (λ id. call_or_other moment s.links id (id_eq id call) refl h (others id))
    timers

no_timers : (moment : ℕ) → AreLate moment (all_stopped standard_lengths)
no_timers moment = (none_late moment, none_late moment, none_late moment, none_late moment)

new_is_idle : (test : Bool) (p : Parameters)
    → IsIdle (if test then Some (new_linked p standard_lengths) else None)
new_is_idle true p = (refl, refl)
new_is_idle false p = tt

-- at the moment of the deadline
now_due : (moment : ℕ) → IsLate moment (Some moment) × IsLate moment None
now_due moment = (some_late moment moment (omega arith), none_late moment)

t202_due : (moment : ℕ)
    → AreLate moment (record (all_stopped standard_lengths) { t202 = Some moment })
t202_due moment =
    (none_late moment, none_late moment, some_late moment moment (omega arith), none_late moment)

new_idle : (id : LinkId)
    → IsIdle (if is_link_of sides.both_sapis 64 id
    then Some (new_linked (parameters_for sides.both_sapis id.sapi) standard_lengths) else None)
new_idle id =
    new_is_idle (is_link_of sides.both_sapis 64 id) (parameters_for sides.both_sapis id.sapi)

-- a link in front of which another one was set
behind : (test : Bool) (x y : Option Linked) → test ≡ false → IsIdle y
    → IsIdle (if test then x else y)
behind true x y apart h = cc
behind false x y apart h = h

-- the links and timers after a request and these steps
abbrev At : Reaction User → List SideStep → Served
At a side_steps = (after_request (user_behaviour sides.both_sapis) a side_steps).now.served

abbrev t200 : ℕ → SideStep
t200 now = alone (Expire T200 (Some call) now)

abbrev t202 : ℕ → SideStep
t202 now = alone (Expire T202 None now)

abbrev ua : SideStep
ua = arriving (0x00 ∷ 0x81 ∷ 0x73 ∷ []) 4000

abbrev tei : SideStep
tei = arriving assignment 6000

pub establish_in_time : AreExpiredInTime 0 (user_behaviour sides.both_sapis) establishing
    three_expiries 4000
unfolding computed_events
establish_in_time = record {
  at_each = (
    quiet_with (At establishing ([])) 1000 (now_due 1000)
        (λ id apart. rw apart (new_idle id)) (no_timers 1000),
    (
      quiet_with (At establishing (t200 1000 ∷ [])) 2000 (now_due 2000)
          (λ id apart. rw apart (new_idle id)) (no_timers 2000),
      (
        quiet_with (At establishing (t200 1000 ∷ t200 2000 ∷ [])) 3000 (now_due 3000)
            (λ id apart. rw apart (new_idle id)) (no_timers 3000),
        tt,
      ),
    ),
  );
  at_last =
      quiet_with (At establishing (t200 1000 ∷ t200 2000 ∷ t200 3000 ∷ [])) 4000 (now_due 4000)
      (λ id apart. rw apart (new_idle id)) (no_timers 4000);
}

pub late_in_time : AreExpiredInTime 10 (user_behaviour sides.both_sapis) establishing
    three_late_expiries 4040
unfolding computed_events
late_in_time = record {
  at_each = (
    quiet_with (At establishing ([])) 1000 (now_due 1000)
        (λ id apart. rw apart (new_idle id)) (no_timers 1000),
    (
      quiet_with (At establishing (t200 1010 ∷ [])) 2010 (now_due 2010)
          (λ id apart. rw apart (new_idle id)) (no_timers 2010),
      (
        quiet_with (At establishing (t200 1010 ∷ t200 2020 ∷ [])) 3020 (now_due 3020)
            (λ id apart. rw apart (new_idle id)) (no_timers 3020),
        tt,
      ),
    ),
  );
  at_last =
      quiet_with (At establishing (t200 1010 ∷ t200 2020 ∷ t200 3030 ∷ [])) 4030 (now_due 4030)
      (λ id apart. rw apart (new_idle id)) (no_timers 4030);
}

pub release_in_time : AreExpiredInTime 0 (user_behaviour sides.both_sapis) releasing six_expiries
    8000
unfolding computed_events
release_in_time = record {
  at_each = (
    quiet_with (At releasing ([])) 1000 (now_due 1000)
        (λ id apart. rw apart (new_idle id)) (no_timers 1000),
    (
      quiet_with (At releasing (t200 1000 ∷ [])) 2000 (now_due 2000)
          (λ id apart. rw apart (new_idle id)) (no_timers 2000),
      (
        quiet_with (At releasing (t200 1000 ∷ t200 2000 ∷ [])) 3000 (now_due 3000)
            (λ id apart. rw apart (new_idle id)) (no_timers 3000),
        (
          quiet_with (At releasing (t200 1000 ∷ t200 2000 ∷ t200 3000 ∷ [])) 4000 (now_due 4000)
              (λ id apart. rw apart (new_idle id)) (no_timers 4000),
          (
            quiet_with (At releasing (t200 1000 ∷ t200 2000 ∷ t200 3000 ∷ ua ∷ [])) 5000 (now_due
                5000)
                (λ id apart. rw apart (new_idle id)) (no_timers 5000),
            (
              quiet_with (At releasing (t200 1000 ∷ t200 2000 ∷ t200 3000 ∷ ua ∷ t200 5000 ∷ []))
                  6000 (now_due 6000)
                  (λ id apart. behind _ _ _ apart (behind _ _ _ apart (behind _ _ _ apart (behind _
                  _ _ apart (behind _ _ _ apart (behind _ _ _ apart (behind _ _ _ apart
                  (new_idle id)))))))) (no_timers 6000),
              (
                quiet_with (At releasing (t200 1000 ∷ t200 2000 ∷ t200 3000 ∷ ua ∷ t200 5000 ∷ t200
                    6000 ∷ [])) 7000 (now_due 7000)
                    (λ id apart. behind _ _ _ apart (behind _ _ _ apart (behind _ _ _ apart (behind
                    _ _ _ apart (behind _ _ _ apart (behind _ _ _ apart (behind _ _ _ apart
                    (behind _ _ _ apart (new_idle id))))))))) (no_timers 7000),
                tt,
              ),
            ),
          ),
        ),
      ),
    ),
  );
  at_last =
      quiet_with (At releasing (t200 1000 ∷ t200 2000 ∷ t200 3000 ∷ ua ∷ t200 5000 ∷ t200 6000 ∷
      t200 7000 ∷ [])) 8000 (now_due 8000)
      (λ id apart. behind _ _ _ apart (behind _ _ _ apart (behind _ _ _ apart (behind _ _ _ apart
      (behind _ _ _ apart (behind _ _ _ apart (behind _ _ _ apart (behind _ _ _ apart (behind _
      _ _ apart (new_idle id)))))))))) (no_timers 8000);
}

pub without_tei_in_time : AreExpiredInTime 0 (user_behaviour sides.both_sapis) seeking
    late_assignment 10000
unfolding computed_events
without_tei_in_time = record {
  at_each = (
    quiet_with (At seeking ([])) 2000 tt (λ id apart. tt) (t202_due 2000),
    (
      quiet_with (At seeking (t202 2000 ∷ [])) 4000 tt (λ id apart. tt) (t202_due 4000),
      (
        quiet_with (At seeking (t202 2000 ∷ t202 4000 ∷ [])) 6000 tt (λ id apart. tt) (t202_due
            6000),
        (
          quiet_with (At seeking (t202 2000 ∷ t202 4000 ∷ tei ∷ [])) 7000 (now_due 7000)
              (λ id apart. rw apart (new_idle id)) (no_timers 7000),
          (
            quiet_with (At seeking (t202 2000 ∷ t202 4000 ∷ tei ∷ t200 7000 ∷ [])) 8000 (now_due
                8000)
                (λ id apart. rw apart (new_idle id)) (no_timers 8000),
            (
              quiet_with (At seeking (t202 2000 ∷ t202 4000 ∷ tei ∷ t200 7000 ∷ t200 8000 ∷ []))
                  9000 (now_due 9000)
                  (λ id apart. rw apart (new_idle id)) (no_timers 9000),
              tt,
            ),
          ),
        ),
      ),
    ),
  );
  at_last =
      quiet_with (At seeking (t202 2000 ∷ t202 4000 ∷ tei ∷ t200 7000 ∷ t200 8000 ∷ t200 9000 ∷
      [])) 10000 (now_due 10000)
      (λ id apart. rw apart (new_idle id)) (no_timers 10000);
}

pub backwards_in_time : AreExpiredInTime 0 (user_behaviour sides.both_sapis) backwards [] 6000
unfolding computed_events
backwards_in_time = record {
  at_each = tt;
  at_last = quiet_with (At backwards []) 6000 (now_due 6000)
      (λ id apart. rw apart (new_idle id)) (no_timers 6000);
}
