-- A UI command delivers unit data to layer 3 once; no other input does.
use Rattle.std.proofs.Common.{◌≡◌, ℕ, ◌+◌, ◌-◌, ◌==◌, nat_lt, Bool, true, false, if◌then◌else◌, List, [], ◌∷◌, ◌++◌, Option, Some, None, Ok, refl, subst, arith}
use Rattle.lapd_timers.specs.declared.timer.Timer.TheVariants.{T200, T203}
use Rattle.lapd_frame.specs.declared.Role.{Role}
use Rattle.lapd_frame.specs.declared.Role.TheVariants.{Command, Answer}
use Rattle.lapd_frame.specs.declared.Control.{Control}
use Rattle.lapd_mod128.specs.Counting.{Reading}
use Rattle.lapd_supervision.specs.StateVariables.{status_frame, acknowledgement, is_accepted, i_frame_response, acknowledged_count, next_i_frame, last_i_frame, with_own_busy}
use Rattle.lapd_link_definition.specs.declared.out.Out.{Out}
use Rattle.lapd_link_definition.specs.declared.out.Out.TheVariants.{Send, SendMessage, SendUnit, Up, UnitUp, Established, Confirmed, Released, ReleaseConfirm, Acknowledged, Dropped, Start, Stop, Report}
use Rattle.lapd_link_definition.specs.EndOfStep.{end_step}
use Rattle.lapd_link_definition.specs.Counts.{unit_ups, receives_unit}
use Rattle.lapd_link_definition.specs.End.{End, StepState, begin, waiting, runs}
use Rattle.lapd_link_definition.specs.Input.{Input, Heard, Faulty, Expiry, Establish, Release, BusyOn, BusyOff, UnitData, Give}
use Rattle.lapd_link_definition.specs.Procedures.{out_where, counted, response_of, put}
use Rattle.lapd_link_definition.specs.Refusal.{refused}
use Rattle.lapd_link_definition.specs.Table.{is_unit_data, row, step}
use Rattle.lapd_link_definition.proofs.EachAction.{IsPut, PreservedByActions, row_preserves, close_preserves}
use Rattle.lapd_link_definition.proofs.PreservedByStep.{taken}
use Rattle.lapd_link_definition.proofs.ComputedStep.{each_action}

units_both : (xs ys : List Out) → unit_ups (xs ++ ys) ≡ unit_ups xs + unit_ups ys
units_both [] ys = omega arith
units_both (UnitUp ∷ xs) ys = omega (arith, units_both xs ys)
units_both (x ∷ xs) ys = units_both xs ys

-- ---- Outputs that deliver no unit data to layer 3.

put_is_none : (out : Out) → IsPut out → unit_ups (out ∷ []) ≡ 0
put_is_none (SendMessage place control) h = absurd h
put_is_none Up h = absurd h
put_is_none UnitUp h = absurd h
put_is_none (Acknowledged n) h = absurd h
put_is_none (Dropped n) h = absurd h
put_is_none (Start timer) h = absurd h
put_is_none (Stop timer) h = absurd h
put_is_none out h = refl

none_where : (on : Bool) (out : Out) → unit_ups (out ∷ []) ≡ 0 → unit_ups (out_where on out) ≡ 0
none_where true out h = h
none_where false out h = refl

none_unless : (on : Bool) (outs : List Out) → unit_ups outs ≡ 0
    → unit_ups (if on then [] else outs) ≡ 0
none_unless true outs h = refl
none_unless false outs h = h

none_of_response : (response : Option Control) → unit_ups (response_of response) ≡ 0
none_of_response None = refl
none_of_response (Some control) = refl

none_of_lost : (same : Bool) (n : ℕ)
    → unit_ups (if same then [] else counted n Dropped ++ Established ∷ []) ≡ 0
none_of_lost true n = refl
none_of_lost false n =
    omega (
      arith,
      units_both (counted n Dropped) (Established ∷ []),
      none_where (nat_lt 0 n) (Dropped n) refl,
    )

-- ---- Every action keeps the number of deliveries.

pub record AreUnits (n : ℕ) (outs : List Out) : Type 0 where
  pub count : unit_ups outs ≡ n

more : {n : ℕ} {outs : List Out} (added : List Out) → unit_ups added ≡ 0 → AreUnits n outs
    → AreUnits n (outs ++ added)
more {outs = outs} added none h =
    record { count = omega (arith, units_both outs added, none, h.count) }

units : (r : Reading) (n : ℕ)
    → PreservedByActions r (λ timer s. Unit {0}) (λ s. AreUnits n s.outs) (λ s. AreUnits n s.outs)
    (λ message. Unit {0}) (Unit {0}) (Unit {0}) ⊥ (Unit {0}) (λ nr. Unit {0})
unfolding each_action
units r n = record {
  puts = λ out s ok h. more (out ∷ []) (put_is_none out ok) h;
  unit_ups = λ s u h. absurd u;
  states = λ state s h. h;
  rcs = λ k s h. h;
  increments = λ s h. h;
  layer3s = λ on s h. h;
  pendings = λ on s h. h;
  starts = λ timer s h. more (Start timer ∷ []) refl h;
  stops =
      λ timer s h. more (out_where (runs timer s.end) (Stop timer))
      (none_where (runs timer s.end) (Stop timer) refl) h;
  still_expires = λ timer s x. tt;
  expires = λ timer s x h. h;
  clears = λ s h. h;
  zeroes = λ s b h. h;
  peers = λ on s h. h;
  owns =
      λ on s h. more (Send Answer (status_frame false (with_own_busy on s.end.window)) ∷ []) refl h;
  responds = λ s h. more (Send Answer (status_frame true s.end.window) ∷ []) refl h;
  enquires = λ s h. more (Send Command (status_frame true s.end.window) ∷ Start T200 ∷ []) refl h;
  queues = λ message s given h. h;
  discards =
      λ s h. more (counted (waiting s.end) Dropped)
      (none_where (nat_lt 0 (waiting s.end)) (Dropped (waiting s.end)) refl) h;
  loses =
      λ s h. more (if s.end.window.vs == s.end.window.va then []
      else counted (waiting s.end) Dropped ++ Established ∷ [])
      (none_of_lost (s.end.window.vs == s.end.window.va) (waiting s.end)) h;
  takes =
      λ ns p s t h. more (response_of (i_frame_response r ns p s.end.window))
      (none_of_response (i_frame_response r ns p s.end.window))
      (more (out_where (is_accepted ns s.end.window) Up)
      (none_where (is_accepted ns s.end.window) Up refl) h);
  follows = λ s h. h;
  acknowledges =
      λ nr s number valid h. let k =
      acknowledged_count r nr s.end.window in more (counted k Acknowledged)
      (none_where (nat_lt 0 k) (Acknowledged k) refl) h;
  retransmits = λ nr s number valid h. h;
  repeats =
      λ s g h. more
      (SendMessage (s.end.next - 1 - s.end.first) (last_i_frame r s.end.window) ∷ Start T200 ∷ [])
      refl h;
  rcs_then = λ k s h. h;
  states_then = λ state s h. h;
  starts_then = λ timer s h. more (Start timer ∷ []) refl h;
  stops_then =
      λ timer s h. more (out_where (runs timer s.end) (Stop timer))
      (none_where (runs timer s.end) (Stop timer) refl) h;
  sends =
      λ s g go h. more (SendMessage (s.end.next - s.end.first) (next_i_frame s.end.window) ∷ [])
      refl h;
  ensures_t200 =
      λ s h. more (if s.end.t200 then [] else Start T200 ∷ [])
      (none_unless s.end.t200 (Start T200 ∷ []) refl)
      (more (if s.end.t200 then [] else out_where s.end.t203 (Stop T203))
      (none_unless s.end.t200 (out_where s.end.t203 (Stop T203))
      (none_where s.end.t203 (Stop T203) refl)) h);
  reporting = λ s h. more (Send Answer (acknowledgement s.end.window) ∷ []) refl h;
}

-- ---- A whole step.

absent : (hears : Bool) → hears ≡ false → hears ≡ true → ⊥
absent hears none some = cc

none_by_row : (r : Reading) (input : Input) (e : End) → receives_unit input ≡ false
    → AreUnits 0 (row r e.state input (begin e)).outs
unfolding begin
none_by_row r input e none =
    row_preserves r _ (λ s. AreUnits 0 s.outs) (λ s. AreUnits 0 s.outs) _ _ _ _ _ _ (units r 0)
    e.state input (begin e) (λ message same. tt) (λ b. tt) (λ opened ns nr p same. tt)
    (absent (receives_unit input) none) (λ there same. tt) (λ nr same. tt) (λ timer same. tt)
    (record { count = refl })

one_where : (unit : Bool) (s t : StepState) → unit ≡ true → AreUnits 1 s.outs
    → AreUnits 1 (if unit then s else t).outs
one_where true s t h one = one
one_where false s t h one = cc

one_by_row : (r : Reading) (control : Control) (role : Role) (e : End)
    → is_unit_data control role ≡ true
    → AreUnits 1 (row r e.state (Heard control role) (begin e)).outs
unfolding row put begin
one_by_row r control role e unit =
    one_where (is_unit_data control role) _ _ unit (record { count = refl })

by_step : (r : Reading) (n : ℕ) (input : Input) (e : End) (s : StepState)
    → AreUnits n (row r e.state input (begin e)).outs → step r input e ≡ Ok s → unit_ups s.outs ≡ n
unfolding step
by_step r n input e s there done =
    let P : StepState → Type 0 = λ t. AreUnits n t.outs in
    (subst P (taken (refused input e) (end_step r (row r e.state input (begin e))) s done).1
    (close_preserves r _ P P _ _ _ _ _ _ (units r n) (row r e.state input (begin e)) tt
    there)).count

by_frame : (r : Reading) (control : Control) (role : Role) (e : End) (s : StepState) (unit : Bool)
    → is_unit_data control role ≡ unit → step r (Heard control role) e ≡ Ok s
    → unit_ups s.outs ≡ (if unit then 1 else 0)
by_frame r control role e s true unit done =
    by_step r 1 (Heard control role) e s (one_by_row r control role e unit) done
by_frame r control role e s false unit done =
    by_step r 0 (Heard control role) e s (none_by_row r (Heard control role) e unit) done

none_by_step : (r : Reading) (input : Input) (e : End) (s : StepState) → receives_unit input ≡ false
    → step r input e ≡ Ok s → unit_ups s.outs ≡ 0
none_by_step r input e s none done = by_step r 0 input e s (none_by_row r input e none) done

pub units_after : (r : Reading) (input : Input) (e : End) (s : StepState) → step r input e ≡ Ok s
    → unit_ups s.outs ≡ (if receives_unit input then 1 else 0)
units_after r (Heard control role) e s done =
    by_frame r control role e s (is_unit_data control role) refl done
units_after r (Faulty kind) e s done = none_by_step r (Faulty kind) e s refl done
units_after r (Expiry timer) e s done = none_by_step r (Expiry timer) e s refl done
units_after r Establish e s done = none_by_step r Establish e s refl done
units_after r Release e s done = none_by_step r Release e s refl done
units_after r BusyOn e s done = none_by_step r BusyOn e s refl done
units_after r BusyOff e s done = none_by_step r BusyOff e s refl done
units_after r (UnitData len) e s done = none_by_step r (UnitData len) e s refl done
units_after r (Give message) e s done = none_by_step r (Give message) e s refl done
