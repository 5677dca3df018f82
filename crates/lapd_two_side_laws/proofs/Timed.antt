-- T200 and T203 of a link run only if its end says so.
use Rattle.std.proofs.Common.{◌≡◌, ℕ, Bool, true, false, if◌then◌else◌, List, [], ◌∷◌, ◌++◌, Option, Some, None, Ok, refl, sym, ap, subst, ◌∙◌}
use Rattle.std.specs.Prelude.{is_some, ◌&&◌, ◌==◌, nat_lt}
use Rattle.lapd_timers.specs.declared.timer.Timer.{Timer}
use Rattle.lapd_timers.specs.declared.timer.Timer.TheVariants.{T200, T201, T202, T203}
use Rattle.lapd_timers.specs.Due.{Timers, deadline_of}
use Rattle.lapd_timers.specs.Durations.{Lengths}
use Rattle.lapd_frame.specs.declared.Control.{Control}
use Rattle.lapd_mod128.specs.Counting.{Reading}
use Rattle.lapd_supervision.specs.StateVariables.{is_accepted, i_frame_response, acknowledged_count}
use Rattle.lapd_link_definition.specs.declared.out.Out.{Out}
use Rattle.lapd_link_definition.specs.declared.out.Out.TheVariants.{Up, UnitUp, Established, Acknowledged, Dropped, Start, Stop}
use Rattle.lapd_link_definition.specs.End.{End, StepState, begin, waiting, runs, with_timer}
use Rattle.lapd_link_definition.specs.Input.{Input, Expiry}
use Rattle.lapd_link_definition.specs.Parameters.{Parameters}
use Rattle.lapd_link_definition.specs.Procedures.{out_where, counted, response_of}
use Rattle.lapd_link_definition.specs.Refusal.{refused}
use Rattle.lapd_link_definition.specs.EndOfStep.{end_step}
use Rattle.lapd_link_definition.specs.Table.{row, step}
use Rattle.lapd_link_definition.proofs.EachAction.{IsPut, PreservedByActions, row_preserves, close_preserves}
use Rattle.lapd_link_definition.proofs.PreservedByStep.{taken}
use Rattle.lapd_sides_links.specs.Effects.{started, stopped, timed_by, timed}
use Rattle.lapd_sides_links.specs.Links.{Linked, new_linked}
use Rattle.lapd_two_side_laws.specs.Projects.{IsTimed}
use Rattle.lapd_link_definition.proofs.ComputedStep.{each_action}

-- ---- Outputs that start and stop no timer.

abbrev IsStill : Out → Type 0
IsStill (Start timer) = ⊥
IsStill (Stop timer) = ⊥
IsStill out = Unit {0}

abbrev AreStill : List Out → Type 0
AreStill [] = Unit {0}
AreStill (out ∷ outs) = IsStill out × AreStill outs

timed_both : (now : ℕ) (xs ys : List Out) (t : Timers)
    → timed now (xs ++ ys) t ≡ timed now ys (timed now xs t)
timed_both now [] ys t = refl
timed_both now (x ∷ xs) ys t = timed_both now xs ys (timed_by now x t)

still_by : (now : ℕ) (out : Out) (t : Timers) → IsStill out → timed_by now out t ≡ t
still_by now (Start timer) t h = absurd h
still_by now (Stop timer) t h = absurd h
still_by now other t h = refl

still : (now : ℕ) (outs : List Out) (t : Timers) → AreStill outs → timed now outs t ≡ t
still now [] t h = refl
still now (out ∷ outs) t h = ap (timed now outs) (still_by now out t h.0) ∙ still now outs t h.1

put_is_still : (out : Out) → IsPut out → IsStill out
put_is_still (Start timer) h = absurd h
put_is_still (Stop timer) h = absurd h
put_is_still other h = tt

still_where : (on : Bool) (out : Out) → IsStill out → AreStill (out_where on out)
still_where true out h = (h, tt)
still_where false out h = tt

still_both : (xs ys : List Out) → AreStill xs → AreStill ys → AreStill (xs ++ ys)
still_both [] ys hx hy = hy
still_both (x ∷ xs) ys hx hy = (hx.0, still_both xs ys hx.1 hy)

still_response : (control : Option Control) → AreStill (response_of control)
still_response None = tt
still_response (Some control) = (tt, tt)

unless_still : (on : Bool) (outs : List Out) → AreStill outs → AreStill (if on then [] else outs)
unless_still true outs h = tt
unless_still false outs h = h

-- ---- What each action keeps.

abbrev pub is_on : Timer → Timers → Bool
is_on timer t = is_some (deadline_of timer t)

-- the timers so far run only if these flags say so
pub record Agree (t : Timers) (t200 t203 : Bool) : Type 0 where
  pub of_200 : is_on T200 t ≡ true → t200 ≡ true
  pub of_203 : is_on T203 t ≡ true → t203 ≡ true

start_agrees : (now : ℕ) (timer : Timer) (t : Timers) (e : End) → Agree t e.t200 e.t203
    → Agree (started now timer t) (with_timer timer true e).t200 (with_timer timer true e).t203
start_agrees now T200 t e h = record { of_200 = λ on. refl; of_203 = h.of_203 }
start_agrees now T201 t e h = record { of_200 = h.of_200; of_203 = h.of_203 }
start_agrees now T202 t e h = record { of_200 = h.of_200; of_203 = h.of_203 }
start_agrees now T203 t e h = record { of_200 = h.of_200; of_203 = λ on. refl }

stop_by : (now : ℕ) (timer : Timer) (on : Bool) (t : Timers) (e : End) → runs timer e ≡ on
    → Agree t e.t200 e.t203
    → Agree (timed now (out_where on (Stop timer)) t) (with_timer timer false e).t200
    (with_timer timer false e).t203
stop_by now T200 true t e is h = record { of_200 = λ on. on; of_203 = h.of_203 }
stop_by now T200 false t e is h = record { of_200 = λ on. sym is ∙ h.of_200 on; of_203 = h.of_203 }
stop_by now T203 true t e is h = record { of_200 = h.of_200; of_203 = λ on. on }
stop_by now T203 false t e is h = record { of_200 = h.of_200; of_203 = λ on. sym is ∙ h.of_203 on }
stop_by now T201 true t e is h = record { of_200 = h.of_200; of_203 = h.of_203 }
stop_by now T201 false t e is h = record { of_200 = h.of_200; of_203 = h.of_203 }
stop_by now T202 true t e is h = record { of_200 = h.of_200; of_203 = h.of_203 }
stop_by now T202 false t e is h = record { of_200 = h.of_200; of_203 = h.of_203 }

expire_agrees : (timer : Timer) (t : Timers) (e : End) → is_on timer t ≡ false
    → Agree t e.t200 e.t203
    → Agree t (with_timer timer false e).t200 (with_timer timer false e).t203
expire_agrees T200 t e off h = record { of_200 = λ on. sym off ∙ on; of_203 = h.of_203 }
expire_agrees T201 t e off h = record { of_200 = h.of_200; of_203 = h.of_203 }
expire_agrees T202 t e off h = record { of_200 = h.of_200; of_203 = h.of_203 }
expire_agrees T203 t e off h = record { of_200 = h.of_200; of_203 = λ on. sym off ∙ on }

ensure_by : (now : ℕ) (t200 t203 : Bool) (t : Timers) → Agree t t200 t203
    → Agree (timed now (if t200 then [] else Start T200 ∷ [])
    (timed now (if t200 then [] else out_where t203 (Stop T203)) t)) true (t200 && t203)
ensure_by now true true t h = record { of_200 = h.of_200; of_203 = h.of_203 }
ensure_by now true false t h = record { of_200 = h.of_200; of_203 = h.of_203 }
ensure_by now false true t h = record { of_200 = λ on. refl; of_203 = λ on. on }
ensure_by now false false t h = record { of_200 = λ on. refl; of_203 = h.of_203 }

module _ (r : Reading) (now : ℕ) (t : Timers) where
  abbrev pub Timely : StepState → Type 0
  Timely s = Agree (timed now s.outs t) s.end.t200 s.end.t203

  abbrev pub Stopped : Timer → StepState → Type 0
  Stopped timer s = is_on timer (timed now s.outs t) ≡ false

  -- more outputs follow earlier ones
  behind : (before more : List Out) (a b : Bool) → Agree (timed now more (timed now before t)) a b
      → Agree (timed now (before ++ more) t) a b
  behind before more a b h =
      subst (λ (x : Timers). Agree x a b) (sym (timed_both now before more t)) h

  quiet : (before more : List Out) (a b : Bool) → AreStill more → Agree (timed now before t) a b
      → Agree (timed now (before ++ more) t) a b
  quiet before more a b q h =
      behind before more a b
      (subst (λ (x : Timers). Agree x a b) (sym (still now more (timed now before t) q)) h)

  ensured : (before : List Out) (a b : Bool) → Agree (timed now before t) a b
      → Agree (timed now (before ++ (if a then [] else out_where b (Stop T203))
      ++ (if a then [] else Start T200 ∷ [])) t) true (a && b)
  ensured before a b h =
      behind (before ++ (if a then [] else out_where b (Stop T203)))
      (if a then [] else Start T200 ∷ []) true (a && b)
      (subst (λ (x : Timers). Agree (timed now (if a then [] else Start T200 ∷ []) x) true (a && b))
      (sym (timed_both now before (if a then [] else out_where b (Stop T203)) t))
      (ensure_by now a b (timed now before t) h))

  pub timed_actions : PreservedByActions r Stopped Timely Timely (λ message. Unit {0}) (Unit {0})
      (Unit {0}) (Unit {0}) (Unit {0}) (λ nr. Unit {0})
  unfolding each_action
  timed_actions = record {
    puts = λ out s ok h. quiet s.outs (out ∷ []) _ _ (put_is_still out ok, tt) h;
    unit_ups = λ s u h. quiet s.outs (UnitUp ∷ []) _ _ (tt, tt) h;
    states = λ state s h. h;
    rcs = λ n s h. h;
    increments = λ s h. h;
    layer3s = λ on s h. h;
    pendings = λ on s h. h;
    starts =
        λ timer s h. behind s.outs (Start timer ∷ []) _ _
        (start_agrees now timer (timed now s.outs t) s.end h);
    stops =
        λ timer s h. behind s.outs (out_where (runs timer s.end) (Stop timer)) _ _
        (stop_by now timer (runs timer s.end) (timed now s.outs t) s.end refl h);
    still_expires = λ timer s x. x;
    expires = λ timer s x h. expire_agrees timer (timed now s.outs t) s.end x h;
    clears = λ s h. h;
    zeroes = λ s b h. h;
    peers = λ on s h. h;
    owns = λ on s h. quiet s.outs _ _ _ (tt, tt) h;
    responds = λ s h. quiet s.outs _ _ _ (tt, tt) h;
    enquires = λ s h. behind s.outs _ _ _ (record { of_200 = λ on. refl; of_203 = h.of_203 });
    queues = λ message s m h. h;
    discards =
        λ s h. quiet s.outs (counted (waiting s.end) Dropped) _ _
        (still_where (nat_lt 0 (waiting s.end)) (Dropped (waiting s.end)) tt) h;
    loses =
        λ s h. quiet s.outs _ _ _ (unless_still (s.end.window.vs == s.end.window.va) _
        (still_both (counted (waiting s.end) Dropped) (Established ∷ [])
        (still_where (nat_lt 0 (waiting s.end)) (Dropped (waiting s.end)) tt) (tt, tt))) h;
    takes =
        λ ns p s u h. quiet (s.outs ++ out_where (is_accepted ns s.end.window) Up)
        (response_of (i_frame_response r ns p s.end.window)) _ _
        (still_response (i_frame_response r ns p s.end.window))
        (quiet s.outs (out_where (is_accepted ns s.end.window) Up) _ _
        (still_where (is_accepted ns s.end.window) Up tt) h);
    follows = λ s h. h;
    acknowledges =
        λ nr s n valid h. quiet s.outs _ _ _
        (still_where (nat_lt 0 (acknowledged_count r nr s.end.window))
        (Acknowledged (acknowledged_count r nr s.end.window)) tt) h;
    retransmits = λ nr s n valid h. h;
    repeats = λ s g h. behind s.outs _ _ _ (record { of_200 = λ on. refl; of_203 = h.of_203 });
    rcs_then = λ n s h. h;
    states_then = λ state s h. h;
    starts_then =
        λ timer s h. behind s.outs (Start timer ∷ []) _ _
        (start_agrees now timer (timed now s.outs t) s.end h);
    stops_then =
        λ timer s h. behind s.outs (out_where (runs timer s.end) (Stop timer)) _ _
        (stop_by now timer (runs timer s.end) (timed now s.outs t) s.end refl h);
    sends = λ s g go h. quiet s.outs _ _ _ (tt, tt) h;
    ensures_t200 = λ s h. ensured s.outs s.end.t200 s.end.t203 h;
    reporting = λ s h. quiet s.outs _ _ _ (tt, tt) h;
  }

-- ---- A whole step.

-- if the timers agree with the end before a step, they agree after it; an expired timer was stopped
pub timed_by_step : (r : Reading) (now : ℕ) (input : Input) (t : Timers) (e : End) (s : StepState)
    → ((timer : Timer) → input ≡ Expiry timer → is_on timer t ≡ false)
    → Agree t e.t200 e.t203 → step r input e ≡ Ok s
    → Agree (timed now s.outs t) s.end.t200 s.end.t203
unfolding step begin
timed_by_step r now input t e s stopped h done =
    let row_done =
    row_preserves r (Stopped r now t) (Timely r now t) (Timely r now t) _ _ _ _ _ _
    (timed_actions r now t) e.state input (begin e)
    (λ message same. tt) (λ b. tt) (λ opened ns nr p same. tt) (λ u. tt) (λ there same. tt)
    (λ nr same. tt) stopped h in
    subst (Timely r now t)
    (taken (refused input e) (end_step r (row r e.state input (begin e))) s done).1
    (close_preserves r (Stopped r now t) (Timely r now t) (Timely r now t) _ _ _ _ _ _
    (timed_actions r now t) (row r e.state input (begin e)) tt row_done)

-- the same, said of a link
pub link_timed : (l : Linked) → IsTimed l → Agree l.timers l.end.t200 l.end.t203
link_timed l h = record { of_200 = h.t200; of_203 = h.t203 }

pub timed_link : (e : End) (t : Timers) → Agree t e.t200 e.t203
    → IsTimed (record { end = e; timers = t })
timed_link e t h = record { t200 = h.of_200; t203 = h.of_203 }

-- an expired timer is stopped
pub stopped_is_off : (timer : Timer) (t : Timers) → is_on timer (stopped timer t) ≡ false
stopped_is_off T200 t = refl
stopped_is_off T201 t = refl
stopped_is_off T202 t = refl
stopped_is_off T203 t = refl

pub stopped_agrees : (timer : Timer) (t : Timers) (a b : Bool) → Agree t a b
    → Agree (stopped timer t) a b
stopped_agrees T200 t a b h = record { of_200 = λ on. absurd (false_is_true on); of_203 = h.of_203 }
  where
    false_is_true : false ≡ true → ⊥
    false_is_true e = cc
stopped_agrees T201 t a b h = record { of_200 = h.of_200; of_203 = h.of_203 }
stopped_agrees T202 t a b h = record { of_200 = h.of_200; of_203 = h.of_203 }
stopped_agrees T203 t a b h = record { of_200 = h.of_200; of_203 = λ on. absurd (false_is_true on) }
  where
    false_is_true : false ≡ true → ⊥
    false_is_true e = cc

-- a newly created link
pub new_is_timed : (p : Parameters) (lengths : Lengths) → IsTimed (new_linked p lengths)
new_is_timed p lengths = record { t200 = λ on. on; t203 = λ on. on }
