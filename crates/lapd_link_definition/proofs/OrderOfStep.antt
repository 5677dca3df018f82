-- A step reports acknowledged and dropped messages before it sends any.
use Rattle.std.proofs.Common.{◌≡◌, ℕ, ◌-◌, ◌==◌, nat_lt, Bool, true, false, if◌then◌else◌, List, [], ◌∷◌, ◌++◌, Option, Some, None, Ok, refl, subst, arith}
use Rattle.lapd_timers.specs.declared.timer.Timer.TheVariants.{T200, T203}
use Rattle.lapd_frame.specs.declared.Role.TheVariants.{Command, Answer}
use Rattle.lapd_frame.specs.declared.Control.{Control}
use Rattle.lapd_mod128.specs.Counting.{Reading}
use Rattle.lapd_supervision.specs.StateVariables.{status_frame, acknowledgement, is_accepted, i_frame_response, acknowledged_count, next_i_frame, last_i_frame, with_own_busy}
use Rattle.lapd_link_definition.specs.declared.out.Out.{Out}
use Rattle.lapd_link_definition.specs.declared.out.Out.TheVariants.{Send, SendMessage, SendUnit, Up, UnitUp, Established, Confirmed, Released, ReleaseConfirm, Acknowledged, Dropped, Start, Stop, Report}
use Rattle.lapd_link_definition.specs.EndOfStep.{end_step}
use Rattle.lapd_link_definition.specs.Counts.{leaving, AreCountedFirst, ArePlaced}
use Rattle.lapd_link_definition.specs.End.{End, StepState, begin, waiting, runs}
use Rattle.lapd_link_definition.specs.Input.{Input, Expiry}
use Rattle.lapd_link_definition.specs.declared.state.State.{State}
use Rattle.lapd_link_definition.specs.declared.state.State.TheVariants.{MultipleFrameEstablished}
use Rattle.lapd_link_definition.specs.Procedures.{out_where, counted, response_of}
use Rattle.lapd_link_definition.specs.Refusal.{refused}
use Rattle.lapd_link_definition.specs.Table.{row, step}
use Rattle.lapd_link_definition.proofs.EachAction.{IsPut, PreservedByActions, row_preserves, close_preserves}
use Rattle.lapd_link_definition.proofs.PreservedByStep.{taken}
use Rattle.lapd_link_definition.proofs.PlacesOfStep.{leaving_both}
use Rattle.lapd_link_definition.proofs.ComputedStep.{each_action}

pub placed_both : (waiting : ℕ) (xs ys : List Out) → ArePlaced waiting xs → ArePlaced waiting ys
    → ArePlaced waiting (xs ++ ys)
placed_both waiting [] ys hx hy = hy
placed_both waiting (x ∷ xs) ys hx hy = (hx.0, placed_both waiting xs ys hx.1 hy)

-- no message is sent: each message that is sent has a place, and here there is none
abbrev pub AreSilent : List Out → Type 0
AreSilent outs = ArePlaced 0 outs

none_is_first : (outs : List Out) → AreSilent outs → AreCountedFirst outs
none_is_first [] h = tt
none_is_first (SendMessage place control ∷ outs) h = absurd (omega (arith, h.0))
none_is_first (out ∷ outs) h = none_is_first outs h.1

first_both : (xs ys : List Out) → AreCountedFirst xs → leaving ys ≡ 0 → AreCountedFirst ys
    → AreCountedFirst (xs ++ ys)
first_both [] ys hx none hy = hy
first_both (SendMessage place control ∷ xs) ys hx none hy =
    (omega (arith, leaving_both xs ys, hx.0, none), first_both xs ys hx.1 none hy)
first_both (x ∷ xs) ys hx none hy = first_both xs ys hx none hy

-- ---- Outputs without a message.

put_sends_none : (out : Out) → IsPut out → AreSilent (out ∷ [])
put_sends_none UnitUp h = absurd h
put_sends_none (SendMessage place control) h = absurd h
put_sends_none Up h = absurd h
put_sends_none (Acknowledged n) h = absurd h
put_sends_none (Dropped n) h = absurd h
put_sends_none (Start timer) h = absurd h
put_sends_none (Stop timer) h = absurd h
put_sends_none out h = (tt, tt)

none_where : (on : Bool) (out : Out) → AreSilent (out ∷ []) → AreSilent (out_where on out)
none_where true out h = h
none_where false out h = tt

none_of_response : (response : Option Control) → AreSilent (response_of response)
none_of_response None = tt
none_of_response (Some control) = (tt, tt)

none_of_lost : (same : Bool) (n : ℕ)
    → AreSilent (if same then [] else counted n Dropped ++ Established ∷ [])
none_of_lost true n = tt
none_of_lost false n =
    placed_both 0 (counted n Dropped) (Established ∷ [])
    (none_where (nat_lt 0 n) (Dropped n) (tt, tt)) (tt, tt)

-- ---- Properties that are kept.

-- no message has been sent yet
pub record IsSilent (outs : List Out) : Type 0 where
  pub none : AreSilent outs

-- acknowledged and dropped messages are reported before any message is sent; with `silence`, no
-- message is sent
pub record IsInOrder (silence : Bool) (outs : List Out) : Type 0 where
  pub order : AreCountedFirst outs
  pub none : silence ≡ true → AreSilent outs

silent : {outs : List Out} (more : List Out) → AreSilent more → IsSilent outs
    → IsSilent (outs ++ more)
silent {outs = outs} more none h = record { none = placed_both 0 outs more h.none none }

-- outputs that neither report a count nor send a message
ordered : {silence : Bool} {outs : List Out} (more : List Out) → leaving more ≡ 0 → AreSilent more
    → IsInOrder silence outs → IsInOrder silence (outs ++ more)
ordered {outs = outs} more nothing none h = record {
  order = first_both outs more h.order nothing (none_is_first more none);
  none = λ quiet. placed_both 0 outs more (h.none quiet) none;
}

-- a message is sent, without `silence`
spoken : {silence : Bool} {outs : List Out} (more : List Out) → silence ≡ false → leaving more ≡ 0
    → AreCountedFirst more → IsInOrder silence outs → IsInOrder silence (outs ++ more)
spoken {outs = outs} more loud nothing later h =
    record { order = first_both outs more h.order nothing later; none = λ quiet. cc }

in_order : {silence : Bool} {outs : List Out} → IsSilent outs → IsInOrder silence outs
in_order {outs = outs} h = record { order = none_is_first outs h.none; none = λ quiet. h.none }

nothing_where : (on : Bool) (out : Out) → leaving (out ∷ []) ≡ 0 → leaving (out_where on out) ≡ 0
nothing_where true out h = h
nothing_where false out h = refl

calm_unless : (on : Bool) (outs : List Out) → (leaving outs ≡ 0) × AreSilent outs
    → (leaving (if on then [] else outs) ≡ 0) × AreSilent (if on then [] else outs)
calm_unless true outs h = (refl, tt)
calm_unless false outs h = h

calm_where : (on : Bool) (out : Out) → leaving (out ∷ []) ≡ 0 → AreSilent (out ∷ [])
    → (leaving (out_where on out) ≡ 0) × AreSilent (out_where on out)
calm_where on out nothing none = (nothing_where on out nothing, none_where on out none)

orders : (r : Reading) (silence : Bool)
    → PreservedByActions r (λ timer s. Unit {0}) (λ s. IsSilent s.outs)
    (λ s. IsInOrder silence s.outs) (λ message. Unit {0}) (Unit {0}) (Unit {0}) (Unit {0})
    (silence ≡ false) (λ nr. Unit {0})
unfolding each_action
orders r silence = record {
  puts = λ out s ok h. silent (out ∷ []) (put_sends_none out ok) h;
  unit_ups = λ s u h. silent (UnitUp ∷ []) (tt, tt) h;
  states = λ state s h. h;
  rcs = λ n s h. h;
  increments = λ s h. h;
  layer3s = λ on s h. h;
  pendings = λ on s h. h;
  starts = λ timer s h. silent (Start timer ∷ []) (tt, tt) h;
  stops =
      λ timer s h. silent (out_where (runs timer s.end) (Stop timer))
      (none_where (runs timer s.end) (Stop timer) (tt, tt)) h;
  still_expires = λ timer s x. tt;
  expires = λ timer s x h. h;
  clears = λ s h. h;
  zeroes = λ s b h. h;
  peers = λ on s h. h;
  owns =
      λ on s h. silent (Send Answer (status_frame false (with_own_busy on s.end.window)) ∷ [])
      (tt, tt) h;
  responds = λ s h. silent (Send Answer (status_frame true s.end.window) ∷ []) (tt, tt) h;
  enquires =
      λ s h. silent (Send Command (status_frame true s.end.window) ∷ Start T200 ∷ []) (tt, (tt, tt))
      h;
  queues = λ message s given h. h;
  discards =
      λ s h. silent (counted (waiting s.end) Dropped)
      (none_where (nat_lt 0 (waiting s.end)) (Dropped (waiting s.end)) (tt, tt)) h;
  loses =
      λ s h. silent (if s.end.window.vs == s.end.window.va then []
      else counted (waiting s.end) Dropped ++ Established ∷ [])
      (none_of_lost (s.end.window.vs == s.end.window.va) (waiting s.end)) h;
  takes =
      λ ns p s t h. silent (response_of (i_frame_response r ns p s.end.window))
      (none_of_response (i_frame_response r ns p s.end.window))
      (silent (out_where (is_accepted ns s.end.window) Up)
      (none_where (is_accepted ns s.end.window) Up (tt, tt)) h);
  follows = λ s h. in_order h;
  acknowledges = λ nr s number valid h. let n = acknowledged_count r nr s.end.window in
      in_order
      (silent (counted n Acknowledged) (none_where (nat_lt 0 n) (Acknowledged n) (tt, tt)) h);
  retransmits = λ nr s number valid h. h;
  repeats =
      λ s g h. spoken
      (SendMessage (s.end.next - 1 - s.end.first) (last_i_frame r s.end.window) ∷ Start T200 ∷ []) g
      refl (refl, tt) (in_order h);
  rcs_then = λ n s h. h;
  states_then = λ state s h. h;
  starts_then = λ timer s h. ordered (Start timer ∷ []) refl (tt, tt) h;
  stops_then =
      λ timer s h. let stopped =
      calm_where (runs timer s.end) (Stop timer) refl (tt, tt) in ordered
      (out_where (runs timer s.end) (Stop timer)) stopped.0 stopped.1 h;
  sends =
      λ s g go h. spoken (SendMessage (s.end.next - s.end.first) (next_i_frame s.end.window) ∷ []) g
      refl (refl, tt) h;
  ensures_t200 = λ s h.
      let stopped =
      calm_unless s.end.t200 (out_where s.end.t203 (Stop T203))
      (calm_where s.end.t203 (Stop T203) refl (tt, tt)) in
      let started = calm_unless s.end.t200 (Start T200 ∷ []) (refl, (tt, tt)) in
      ordered (if s.end.t200 then [] else Start T200 ∷ []) started.0 started.1
      (ordered (if s.end.t200 then [] else out_where s.end.t203 (Stop T203)) stopped.0 stopped.1
      h);
  reporting = λ s h. ordered (Send Answer (acknowledgement s.end.window) ∷ []) refl (tt, tt) h;
}

begins_silent : (e : End) → IsSilent (begin e).outs
unfolding begin
begins_silent e = record { none = tt }

-- a row keeps this order; `silence` is allowed for every row except T200 in state 7
order_of_row : (r : Reading) (silence : Bool) (state : State) (input : Input) (e : End)
    → (state ≡ MultipleFrameEstablished → input ≡ Expiry T200 → silence ≡ false)
    → IsInOrder silence (row r state input (begin e)).outs
order_of_row r silence state input e loud =
    let P : StepState → Type 0 = λ t. IsSilent t.outs in
    let Q : StepState → Type 0 = λ t. IsInOrder silence t.outs in
    row_preserves r _ P Q _ _ _ _ _ _ (orders r silence) state input (begin e) (λ message same. tt)
    (λ b. tt) (λ opened ns nr p same. tt) (λ u. tt) loud (λ nr same. tt) (λ timer same. tt)
    (begins_silent e)

-- a row sends no message, unless T200 expires in state 7
pub silent_row : (r : Reading) (state : State) (input : Input) (e : End)
    → (state ≡ MultipleFrameEstablished → input ≡ Expiry T200 → ⊥)
    → AreSilent (row r state input (begin e)).outs
silent_row r state input e other =
    (order_of_row r true state input e (λ there same. absurd (other there same))).none refl

pub order_of_step : (r : Reading) (input : Input) (e : End) (s : StepState) → step r input e ≡ Ok s
    → AreCountedFirst s.outs
unfolding step
order_of_step r input e s done =
    let P : StepState → Type 0 = λ t. IsSilent t.outs in
    let Q : StepState → Type 0 = λ t. IsInOrder false t.outs in
    (subst Q (taken (refused input e) (end_step r (row r e.state input (begin e))) s done).1
    (close_preserves r _ P Q _ _ _ _ _ _ (orders r false) (row r e.state input (begin e))
    refl
    (order_of_row r false e.state input e (λ there same. refl)))).order
