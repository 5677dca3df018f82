-- The place of the first message in the queue moves by the number of messages that a step reports
-- acknowledged or dropped.
use Rattle.std.proofs.Common.{◌≡◌, ℕ, ◌+◌, ◌-◌, ◌≤◌, ◌==◌, nat_lt, Bool, true, false, if◌then◌else◌, List, [], ◌∷◌, ◌++◌, length, length-append, Option, Some, None, Ok, refl, sym, subst, arith}
use Rattle.std.proofs.lemmas.Bool.Decides.{nat_tests}
use Rattle.lapd_timers.specs.declared.timer.Timer.{Timer}
use Rattle.lapd_timers.specs.declared.timer.Timer.TheVariants.{T200, T201, T202, T203}
use Rattle.lapd_frame.specs.declared.Role.TheVariants.{Command, Answer}
use Rattle.lapd_frame.specs.declared.Control.{Control}
use Rattle.lapd_mod128.specs.Counting.{Reading}
use Rattle.lapd_supervision.specs.StateVariables.{status_frame, acknowledgement, is_accepted, i_frame_response, acknowledged_count, next_i_frame, last_i_frame, with_own_busy}
use Rattle.lapd_link_definition.specs.declared.out.Out.{Out}
use Rattle.lapd_link_definition.specs.declared.out.Out.TheVariants.{Send, SendMessage, SendUnit, Up, UnitUp, Established, Confirmed, Released, ReleaseConfirm, Acknowledged, Dropped, Start, Stop, Report}
use Rattle.lapd_link_definition.specs.EndOfStep.{end_step}
use Rattle.lapd_link_definition.specs.Counts.{leaving}
use Rattle.lapd_link_definition.specs.End.{End, StepState, begin, waiting, runs, with_timer}
use Rattle.lapd_link_definition.specs.Input.{Input}
use Rattle.lapd_link_definition.specs.Procedures.{out_where, counted, response_of, start}
use Rattle.lapd_link_definition.specs.Refusal.{refused}
use Rattle.lapd_link_definition.specs.Table.{row, step}
use Rattle.lapd_link_definition.proofs.EachAction.{IsPut, PreservedByActions, row_preserves, close_preserves}
use Rattle.lapd_link_definition.proofs.PreservedByStep.{taken}
use Rattle.lapd_link_definition.proofs.ComputedStep.{each_action}

pub leaving_both : (xs ys : List Out) → leaving (xs ++ ys) ≡ leaving xs + leaving ys
leaving_both [] ys = omega arith
leaving_both (Acknowledged n ∷ xs) ys = omega (arith, leaving_both xs ys)
leaving_both (Dropped n ∷ xs) ys = omega (arith, leaving_both xs ys)
leaving_both (x ∷ xs) ys = leaving_both xs ys

-- ---- Outputs that remove no message.

put_leaves_none : (out : Out) → IsPut out → leaving (out ∷ []) ≡ 0
put_leaves_none UnitUp h = absurd h
put_leaves_none (SendMessage place control) h = absurd h
put_leaves_none Up h = absurd h
put_leaves_none (Acknowledged n) h = absurd h
put_leaves_none (Dropped n) h = absurd h
put_leaves_none (Start timer) h = absurd h
put_leaves_none (Stop timer) h = absurd h
put_leaves_none out h = refl

none_where : (on : Bool) (out : Out) → leaving (out ∷ []) ≡ 0 → leaving (out_where on out) ≡ 0
none_where true out h = h
none_where false out h = refl

none_unless : (on : Bool) (outs : List Out) → leaving outs ≡ 0
    → leaving (if on then [] else outs) ≡ 0
none_unless true outs h = refl
none_unless false outs h = h

none_of_response : (response : Option Control) → leaving (response_of response) ≡ 0
none_of_response None = refl
none_of_response (Some control) = refl

-- ---- Outputs that count removed messages.

acknowledged_where : (n : ℕ) (some : Bool) → nat_lt 0 n ≡ some
    → leaving (out_where some (Acknowledged n)) ≡ n
acknowledged_where n true h = omega arith
acknowledged_where n false h = grind (arith, nat_tests)

dropped_where : (n : ℕ) (some : Bool) → nat_lt 0 n ≡ some → leaving (out_where some (Dropped n)) ≡ n
dropped_where n true h = omega arith
dropped_where n false h = grind (arith, nat_tests)

dropped_all : (n : ℕ) → leaving (counted n Dropped) ≡ n
dropped_all n = dropped_where n (nat_lt 0 n) refl

-- ---- Properties that are kept: the first place is the place before the step plus the number of
-- removed messages; until an N(R) is acknowledged it is not after the last message.

pub record IsPlaced (start first given : ℕ) (outs : List Out) : Type 0 where
  pub place : start + leaving outs ≡ first
  pub within : first ≤ given

pub record IsMoved (start first : ℕ) (outs : List Out) : Type 0 where
  pub place : start + leaving outs ≡ first

moved : {start first : ℕ} {outs : List Out} (more : List Out) → leaving more ≡ 0
    → IsMoved start first outs → IsMoved start first (outs ++ more)
moved {outs = outs} more none h =
    record { place = omega (arith, leaving_both outs more, none, h.place) }

placed : {start first given : ℕ} {outs : List Out} (more : List Out) → leaving more ≡ 0
    → IsPlaced start first given outs → IsPlaced start first given (outs ++ more)
placed {outs = outs} more none h =
    record { place = omega (arith, leaving_both outs more, none, h.place); within = h.within }

lost : (start first given : ℕ) (outs : List Out) (same : Bool) → IsPlaced start first given outs
    → IsPlaced start (if same then first else given) given
    (outs ++ (if same then [] else counted (given - first) Dropped ++ Established ∷ []))
lost start first given outs true h =
    record { place = omega (arith, leaving_both outs [], h.place); within = h.within }
lost start first given outs false h = record {
  place =
      omega (
        arith,
        leaving_both outs (counted (given - first) Dropped ++ Established ∷ []),
        leaving_both (counted (given - first) Dropped) (Established ∷ []),
        dropped_all (given - first),
        h.place,
        h.within,
      );
  within = omega arith;
}

module _ (r : Reading) (from : ℕ) where
  abbrev pub Before : StepState → Type 0
  Before s = IsPlaced from s.end.first (length s.end.given) s.outs

  abbrev pub Then : StepState → Type 0
  Then s = IsMoved from s.end.first s.outs

  timed : (timer : Timer) (on : Bool) (s : StepState) → Before s
      → Before (record { end = with_timer timer on s.end; outs = s.outs })
  timed T200 on s h = h
  timed T201 on s h = h
  timed T202 on s h = h
  timed T203 on s h = h

  timed_then : (timer : Timer) (on : Bool) (s : StepState) → Then s
      → Then (record { end = with_timer timer on s.end; outs = s.outs })
  timed_then T200 on s h = h
  timed_then T201 on s h = h
  timed_then T202 on s h = h
  timed_then T203 on s h = h

  pub places : PreservedByActions r (λ timer s. Unit {0}) Before Then (λ message. Unit {0})
      (Unit {0}) (Unit {0}) (Unit {0}) (Unit {0}) (λ nr. Unit {0})
  unfolding each_action
  places = record {
    puts = λ out s ok h. placed (out ∷ []) (put_leaves_none out ok) h;
    unit_ups = λ s u h. placed (UnitUp ∷ []) refl h;
    states = λ state s h. h;
    rcs = λ k s h. h;
    increments = λ s h. h;
    layer3s = λ on s h. h;
    pendings = λ on s h. h;
    starts = λ timer s h. placed (Start timer ∷ []) refl (timed timer true s h);
    stops =
        λ timer s h. placed (out_where (runs timer s.end) (Stop timer))
        (none_where (runs timer s.end) (Stop timer) refl) (timed timer false s h);
    still_expires = λ timer s x. tt;
    expires = λ timer s x h. timed timer false s h;
    clears = λ s h. h;
    zeroes = λ s b h. h;
    peers = λ on s h. h;
    owns =
        λ on s h. placed (Send Answer (status_frame false (with_own_busy on s.end.window)) ∷ [])
        refl h;
    responds = λ s h. placed (Send Answer (status_frame true s.end.window) ∷ []) refl h;
    enquires =
        λ s h. placed (Send Command (status_frame true s.end.window) ∷ Start T200 ∷ []) refl h;
    repeats =
        λ s g h. moved
        (SendMessage (s.end.next - 1 - s.end.first) (last_i_frame r s.end.window) ∷ Start T200 ∷ [])
        refl (record { place = h.place });
    queues =
        λ message s given h. record {
          place = h.place;
          within = omega (arith, length-append s.end.given (message ∷ []), h.within);
        };
    discards = λ s h. record {
      place =
          omega (
            arith,
            leaving_both s.outs (counted (waiting s.end) Dropped),
            dropped_all (waiting s.end),
            h.place,
            h.within,
          );
      within = omega arith;
    };
    loses =
        λ s h. lost from s.end.first (length s.end.given) s.outs
        (s.end.window.vs == s.end.window.va) h;
    takes =
        λ ns p s t h. placed (response_of (i_frame_response r ns p s.end.window))
        (none_of_response (i_frame_response r ns p s.end.window))
        (placed (out_where (is_accepted ns s.end.window) Up)
        (none_where (is_accepted ns s.end.window) Up refl) h);
    follows = λ s h. record { place = h.place };
    acknowledges = λ nr s number valid h. let n = acknowledged_count r nr s.end.window in
        record {
          place =
              omega (
                arith,
                leaving_both s.outs (counted n Acknowledged),
                acknowledged_where n
                    (nat_lt 0 n) refl,
                h.place,
              );
        };
    retransmits = λ nr s number valid h. h;
    rcs_then = λ k s h. h;
    states_then = λ state s h. h;
    starts_then = λ timer s h. moved (Start timer ∷ []) refl (timed_then timer true s h);
    stops_then =
        λ timer s h. moved (out_where (runs timer s.end) (Stop timer))
        (none_where (runs timer s.end) (Stop timer) refl) (timed_then timer false s h);
    sends =
        λ s g go h. moved (SendMessage (s.end.next - s.end.first) (next_i_frame s.end.window) ∷ [])
        refl h;
    ensures_t200 =
        λ s h. moved (if s.end.t200 then [] else Start T200 ∷ [])
        (none_unless s.end.t200 (Start T200 ∷ []) refl)
        (moved (if s.end.t200 then [] else out_where s.end.t203 (Stop T203))
        (none_unless s.end.t200 (out_where s.end.t203 (Stop T203))
        (none_where s.end.t203 (Stop T203) refl)) h);
    reporting = λ s h. moved (Send Answer (acknowledgement s.end.window) ∷ []) refl h;
  }

placed_by_row : (r : Reading) (input : Input) (e : End) → e.first ≤ length e.given
    → Then r e.first (row r e.state input (begin e))
unfolding begin
placed_by_row r input e within =
    row_preserves r _ (Before r e.first) (Then r e.first) _ _ _ _ _ _ (places r e.first) e.state
    input (begin e) (λ message same. tt) (λ b. tt) (λ opened ns nr p same. tt) (λ u. tt)
    (λ there same. tt) (λ nr same. tt) (λ timer same. tt)
    (record { place = omega arith; within = within })

pub first_after : (r : Reading) (input : Input) (e : End) (s : StepState) → e.first ≤ length e.given
    → step r input e ≡ Ok s → s.end.first ≡ e.first + leaving s.outs
unfolding step
first_after r input e s within done =
    let is = (taken (refused input e) (end_step r (row r e.state input (begin e))) s done).1 in
    sym (subst (Then r e.first) is (close_preserves r _ (Before r e.first) (Then r e.first) _ _ _ _
    _ _ (places r e.first) (row r e.state input (begin e)) tt
    (placed_by_row r input e within))).place
