-- The effect of outputs on timers: Start, Stop, and outputs that do not change timers.
use Rattle.std.proofs.Common.{◌≡◌, ℕ, ◌&&◌, nat_lt, if◌then◌else◌, Bool, true, false, List, [], ◌∷◌, ◌++◌, Option, Some, None, refl, sym, ap, ◌∙◌}
use Rattle.lapd_timers.specs.declared.timer.Timer.{Timer}
use Rattle.lapd_timers.specs.declared.timer.Timer.TheVariants.{T200, T201, T202, T203}
use Rattle.lapd_frame.specs.declared.Control.{Control}
use Rattle.lapd_link_definition.specs.declared.out.Out.{Out}
use Rattle.lapd_link_definition.specs.declared.out.Out.TheVariants.{Send, SendMessage, SendUnit, Up, UnitUp, Established, Confirmed, Released, ReleaseConfirm, Acknowledged, Dropped, Start, Stop, Report}
use Rattle.lapd_link_definition.specs.Procedures.{out_where, counted, response_of}
use Rattle.lapd_link_definition.specs.RunningTimers.{runs_after, runs_after_out, FollowOuts}
use Rattle.lapd_link_definition.proofs.EachAction.{IsPut}

-- ---- Outputs, one after another.

after_both : (timer : Timer) (xs ys : List Out) (running : Bool)
    → runs_after timer (xs ++ ys) running ≡ runs_after timer ys (runs_after timer xs running)
after_both timer [] ys running = refl
after_both timer (x ∷ xs) ys running = after_both timer xs ys (runs_after_out timer x running)

pub then_follow : {b c t u v w : Bool} {xs : List Out} (ys : List Out) → FollowOuts t u v w ys
    → FollowOuts b c t u xs → FollowOuts b c v w (xs ++ ys)
then_follow {b = b} {c = c} {xs = xs} ys new h = record {
  t200_follows =
      new.t200_follows ∙ ap (λ on. runs_after T200 ys on) h.t200_follows
      ∙ sym (after_both T200 xs ys b);
  t203_follows =
      new.t203_follows ∙ ap (λ on. runs_after T203 ys on) h.t203_follows
      ∙ sym (after_both T203 xs ys c);
  t201_stays =
      λ on. after_both T201 xs ys on ∙ new.t201_stays (runs_after T201 xs on) ∙ h.t201_stays on;
  t202_stays =
      λ on. after_both T202 xs ys on ∙ new.t202_stays (runs_after T202 xs on) ∙ h.t202_stays on;
}

-- outputs that do not change timers
abbrev pub AreNoTimers : List Out → Type 0
AreNoTimers outs = (timer : Timer) (running : Bool) → runs_after timer outs running ≡ running

pub alone : (outs : List Out) (t u : Bool) → AreNoTimers outs → FollowOuts t u t u outs
alone outs t u none = record {
  t200_follows = sym (none T200 t);
  t203_follows = sym (none T203 u);
  t201_stays = none T201;
  t202_stays = none T202;
}

pub put_is_no_timer : (out : Out) → IsPut out → AreNoTimers (out ∷ [])
put_is_no_timer (Start started) h timer running = absurd h
put_is_no_timer (Stop stopped) h timer running = absurd h
put_is_no_timer out h timer running = refl

pub where_is_no_timer : (test : Bool) (out : Out) → AreNoTimers (out ∷ [])
    → AreNoTimers (out_where test out)
where_is_no_timer true out none timer running = none timer running
where_is_no_timer false out none timer running = refl

pub response_is_no_timer : (answer : Option Control) → AreNoTimers (response_of answer)
response_is_no_timer None timer running = refl
response_is_no_timer (Some control) timer running = refl

dropped_are_no_timers : (some : Bool) (n : ℕ)
    → AreNoTimers (out_where some (Dropped n) ++ Established ∷ [])
dropped_are_no_timers true n timer running = refl
dropped_are_no_timers false n timer running = refl

pub lost_are_no_timers : (same : Bool) (n : ℕ)
    → AreNoTimers (if same then [] else counted n Dropped ++ Established ∷ [])
lost_are_no_timers true n timer running = refl
lost_are_no_timers false n timer running = dropped_are_no_timers (nat_lt 0 n) n timer running

pub started_200 : (t u : Bool) → FollowOuts t u true u (Start T200 ∷ [])
started_200 t u = record {
  t200_follows = refl;
  t203_follows = refl;
  t201_stays = λ on. refl;
  t202_stays = λ on. refl;
}

pub started_203 : (t u : Bool) → FollowOuts t u t true (Start T203 ∷ [])
started_203 t u = record {
  t200_follows = refl;
  t203_follows = refl;
  t201_stays = λ on. refl;
  t202_stays = λ on. refl;
}

pub stopped_200 : (t u : Bool) → FollowOuts t u false u (out_where t (Stop T200))
stopped_200 true u = record {
  t200_follows = refl;
  t203_follows = refl;
  t201_stays = λ on. refl;
  t202_stays = λ on. refl;
}
stopped_200 false u = record {
  t200_follows = refl;
  t203_follows = refl;
  t201_stays = λ on. refl;
  t202_stays = λ on. refl;
}

pub stopped_203 : (t u : Bool) → FollowOuts t u t false (out_where u (Stop T203))
stopped_203 t true = record {
  t200_follows = refl;
  t203_follows = refl;
  t201_stays = λ on. refl;
  t202_stays = λ on. refl;
}
stopped_203 t false = record {
  t200_follows = refl;
  t203_follows = refl;
  t201_stays = λ on. refl;
  t202_stays = λ on. refl;
}

pub stopped_unless : (t u : Bool)
    → FollowOuts t u t (t && u) (if t then [] else out_where u (Stop T203))
stopped_unless true u = record {
  t200_follows = refl;
  t203_follows = refl;
  t201_stays = λ on. refl;
  t202_stays = λ on. refl;
}
stopped_unless false u = stopped_203 false u

pub started_unless : (t u : Bool) → FollowOuts t u true u (if t then [] else Start T200 ∷ [])
started_unless true u = record {
  t200_follows = refl;
  t203_follows = refl;
  t201_stays = λ on. refl;
  t202_stays = λ on. refl;
}
started_unless false u = started_200 false u
