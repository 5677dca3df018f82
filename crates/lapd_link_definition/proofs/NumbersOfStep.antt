-- If received frames have tags, the numbers of an end stay tags, and it sends tags.
use Rattle.std.proofs.Common.{◌≡◌, ◌-◌, ℕ, ◌<◌, ◌==◌, nat_lt, Bool, true, false, if◌then◌else◌, List, [], ◌∷◌, ◌++◌, Option, Some, Ok, subst, arith}
use Rattle.lapd_timers.specs.declared.timer.Timer.{Timer}
use Rattle.lapd_timers.specs.declared.timer.Timer.TheVariants.{T200, T201, T202, T203}
use Rattle.lapd_frame.specs.declared.Role.TheVariants.{Command, Answer}
use Rattle.lapd_frame.specs.declared.Control.{Control}
use Rattle.lapd_frame.specs.declared.Control.TheVariants.{I, Rr, Rnr, Rej}
use Rattle.lapd_frame.specs.Control.{IsControl}
use Rattle.lapd_mod128.specs.Counting.{Reading, Whole, Tagged, before}
use Rattle.lapd_supervision.specs.StateVariables.{StateVariables, AreTags, status_frame, acknowledgement, poll_response, is_accepted, is_rejected, after_i_frame, i_frame_response, acknowledged_count, next_i_frame, last_i_frame, with_own_busy}
use Rattle.lapd_supervision.proofs.Range.{without_exceptions_are_tags, with_zero_counters_are_tags, without_ack_pending_are_tags, after_i_frame_are_tags, with_va_are_tags, with_vs_are_tags, after_sending_are_tags, own_busy_are_tags, peer_busy_are_tags}
use Rattle.lapd_link_definition.specs.declared.out.Out.{Out}
use Rattle.lapd_link_definition.specs.declared.out.Out.TheVariants.{Send, SendMessage, SendUnit, Up, UnitUp, Established, Confirmed, Released, ReleaseConfirm, Acknowledged, Dropped, Start, Stop, Report}
use Rattle.lapd_link_definition.specs.EndOfStep.{end_step}
use Rattle.lapd_link_definition.specs.End.{End, StepState, begin, waiting, runs, with_timer}
use Rattle.lapd_link_definition.specs.Input.{Input, Heard}
use Rattle.lapd_link_definition.specs.Numbers.{AreNumbers, CarriesNumbers, IsNumbered, AreNumbered}
use Rattle.lapd_link_definition.specs.Procedures.{out_where, counted, response_of}
use Rattle.lapd_link_definition.specs.Refusal.{refused}
use Rattle.lapd_link_definition.specs.Table.{row, step}
use Rattle.lapd_link_definition.proofs.EachAction.{IsPut, PreservedByActions, received_number, row_preserves, close_preserves}
use Rattle.lapd_link_definition.proofs.PreservedByStep.{taken}
use Rattle.lapd_link_definition.proofs.ComputedStep.{each_action}

-- ---- Outputs with tags.

tagged_both : (xs ys : List Out) → AreNumbered Tagged xs → AreNumbered Tagged ys
    → AreNumbered Tagged (xs ++ ys)
tagged_both [] ys hx hy = hy
tagged_both (x ∷ xs) ys hx hy = (hx.0, tagged_both xs ys hx.1 hy)

put_is_tagged : (out : Out) → IsPut out → AreNumbered Tagged (out ∷ [])
put_is_tagged (Send role control) h = (h.1, tt)
put_is_tagged SendUnit h = (tt, tt)
put_is_tagged Established h = (tt, tt)
put_is_tagged Confirmed h = (tt, tt)
put_is_tagged Released h = (tt, tt)
put_is_tagged ReleaseConfirm h = (tt, tt)
put_is_tagged (Report letter) h = (tt, tt)
put_is_tagged out h = absurd h

tagged_where : (on : Bool) (out : Out) → IsNumbered Tagged out
    → AreNumbered Tagged (out_where on out)
tagged_where true out h = (h, tt)
tagged_where false out h = tt

tagged_unless : (on : Bool) (outs : List Out) → AreNumbered Tagged outs
    → AreNumbered Tagged (if on then [] else outs)
tagged_unless true outs h = tt
tagged_unless false outs h = h

lost_are_tagged : (same : Bool) (n : ℕ)
    → AreNumbered Tagged (if same then [] else counted n Dropped ++ Established ∷ [])
lost_are_tagged true n = tt
lost_are_tagged false n =
    tagged_both (counted n Dropped) (Established ∷ []) (tagged_where (nat_lt 0 n) (Dropped n) tt)
    (tt, tt)

status_in : (busy pf : Bool) (n : ℕ) → n < 128 → IsControl (if busy then Rnr n pf else Rr n pf)
status_in true pf n h = omega (arith, h)
status_in false pf n h = omega (arith, h)

status_is_tagged : (pf : Bool) (m : StateVariables) → AreTags m → IsControl (status_frame pf m)
unfolding status_frame
status_is_tagged pf m h = status_in m.own_busy pf m.vr h.2

rr_is_tagged : (m : StateVariables) → AreTags m → IsControl (acknowledgement m)
unfolding acknowledgement
rr_is_tagged m h = omega (arith, h.2)

poll_is_tagged : (p : Bool) (m : StateVariables) → AreTags m
    → AreNumbered Tagged (response_of (poll_response p m))
unfolding poll_response
poll_is_tagged true m h = (status_is_tagged true m h, tt)
poll_is_tagged false m h = tt

response_in : (rejected p : Bool) (n : ℕ) (other : Option Control) → n < 128
    → AreNumbered Tagged (response_of other)
    → AreNumbered Tagged (response_of (if rejected then Some (Rej n p) else other))
response_in true p n other small h = (omega (arith, small), tt)
response_in false p n other small h = h

response_is_tagged : (ns : ℕ) (p : Bool) (m : StateVariables) → AreTags m
    → AreNumbered Tagged (response_of (i_frame_response Tagged ns p m))
unfolding i_frame_response
response_is_tagged ns p m h =
    response_in (is_rejected ns m) p m.vr (poll_response p (after_i_frame Tagged ns p m)) h.2
    (poll_is_tagged p (after_i_frame Tagged ns p m) (after_i_frame_are_tags ns p m h))

i_frame_is_tagged : (m : StateVariables) → AreTags m → IsControl (next_i_frame m)
unfolding next_i_frame
i_frame_is_tagged m h = (omega (arith, h.0), omega (arith, h.2))

last_is_tagged : (m : StateVariables) → AreTags m → IsControl (last_i_frame Tagged m)
unfolding last_i_frame before
last_is_tagged m h = (omega arith, omega (arith, h.2))

-- ---- Properties that are kept.

pub record HasTags (window : StateVariables) (outs : List Out) : Type 0 where
  pub tags : AreTags window
  pub sent : AreNumbered Tagged outs

sending : {m : StateVariables} {outs : List Out} (more : List Out) → AreNumbered Tagged more
    → HasTags m outs → HasTags m (outs ++ more)
sending {outs = outs} more tagged h =
    record { tags = h.tags; sent = tagged_both outs more h.sent tagged }

changed : {m : StateVariables} {outs : List Out} (now : StateVariables) → AreTags now
    → HasTags m outs → HasTags now outs
changed now tagged h = record { tags = tagged; sent = h.sent }

abbrev AllTags : StepState → Type 0
AllTags s = HasTags s.end.window s.outs

timed : (timer : Timer) (on : Bool) (s : StepState) → AllTags s
    → AllTags (record { end = with_timer timer on s.end; outs = s.outs })
timed T200 on s h = h
timed T201 on s h = h
timed T202 on s h = h
timed T203 on s h = h

tags : PreservedByActions Tagged (λ timer s. Unit {0}) AllTags AllTags (λ message. Unit {0})
    (Unit {0}) (Unit {0}) (Unit {0}) (Unit {0}) (λ nr. nr < 128)
unfolding each_action
tags = record {
  puts = λ out s ok h. sending (out ∷ []) (put_is_tagged out ok) h;
  unit_ups = λ s u h. sending (UnitUp ∷ []) (tt, tt) h;
  states = λ state s h. h;
  rcs = λ n s h. h;
  increments = λ s h. h;
  layer3s = λ on s h. h;
  pendings = λ on s h. h;
  starts = λ timer s h. sending (Start timer ∷ []) (tt, tt) (timed timer true s h);
  stops =
      λ timer s h. sending (out_where (runs timer s.end) (Stop timer))
      (tagged_where (runs timer s.end) (Stop timer) tt) (timed timer false s h);
  still_expires = λ timer s x. tt;
  expires = λ timer s x h. timed timer false s h;
  clears = λ s h. changed _ (without_exceptions_are_tags s.end.window h.tags) h;
  zeroes = λ s b h. changed _ (with_zero_counters_are_tags s.end.window) h;
  peers = λ on s h. changed _ (peer_busy_are_tags on s.end.window h.tags) h;
  owns = λ on s h. let now = own_busy_are_tags on s.end.window h.tags in
      sending (Send Answer (status_frame false (with_own_busy on s.end.window)) ∷ [])
      (status_is_tagged false (with_own_busy on s.end.window) now, tt) (changed _ now h);
  responds =
      λ s h. sending (Send Answer (status_frame true s.end.window) ∷ [])
      (status_is_tagged true s.end.window h.tags, tt)
      (changed _ (without_ack_pending_are_tags s.end.window h.tags) h);
  enquires =
      λ s h. sending (Send Command (status_frame true s.end.window) ∷ Start T200 ∷ [])
      (status_is_tagged true s.end.window h.tags, (tt, tt))
      (changed _ (without_ack_pending_are_tags s.end.window h.tags) h);
  queues = λ message s given h. h;
  discards =
      λ s h. sending (counted (waiting s.end) Dropped)
      (tagged_where (nat_lt 0 (waiting s.end)) (Dropped (waiting s.end)) tt) h;
  loses =
      λ s h. sending (if s.end.window.vs == s.end.window.va then []
      else counted (waiting s.end) Dropped ++ Established ∷ [])
      (lost_are_tagged (s.end.window.vs == s.end.window.va) (waiting s.end)) h;
  takes =
      λ ns p s t h. sending (response_of (i_frame_response Tagged ns p s.end.window))
      (response_is_tagged ns p s.end.window h.tags)
      (sending (out_where (is_accepted ns s.end.window) Up)
      (tagged_where (is_accepted ns s.end.window) Up tt)
      (changed _ (after_i_frame_are_tags ns p s.end.window h.tags) h));
  follows = λ s h. h;
  acknowledges = λ nr s number valid h. let n = acknowledged_count Tagged nr s.end.window in
      sending (counted n Acknowledged) (tagged_where (nat_lt 0 n) (Acknowledged n) tt)
      (changed _ (with_va_are_tags nr s.end.window number h.tags) h);
  retransmits = λ nr s number valid h. changed _ (with_vs_are_tags nr _ number h.tags) h;
  repeats =
      λ s g h. sending (SendMessage (s.end.next - 1 - s.end.first)
      (last_i_frame Tagged s.end.window) ∷ Start T200 ∷ [])
      (last_is_tagged s.end.window h.tags, (tt, tt))
      (changed _ (without_ack_pending_are_tags s.end.window h.tags) h);
  rcs_then = λ n s h. h;
  states_then = λ state s h. h;
  starts_then = λ timer s h. sending (Start timer ∷ []) (tt, tt) (timed timer true s h);
  stops_then =
      λ timer s h. sending (out_where (runs timer s.end) (Stop timer))
      (tagged_where (runs timer s.end) (Stop timer) tt) (timed timer false s h);
  sends =
      λ s g go h. sending (SendMessage (s.end.next - s.end.first) (next_i_frame s.end.window) ∷ [])
      (i_frame_is_tagged s.end.window h.tags, tt)
      (changed _ (after_sending_are_tags s.end.window h.tags) h);
  ensures_t200 =
      λ s h. sending (if s.end.t200 then [] else Start T200 ∷ [])
      (tagged_unless s.end.t200 (Start T200 ∷ []) (tt, tt))
      (sending (if s.end.t200 then [] else out_where s.end.t203 (Stop T203))
      (tagged_unless s.end.t200 (out_where s.end.t203 (Stop T203))
      (tagged_where s.end.t203 (Stop T203) tt)) h);
  reporting =
      λ s h. sending (Send Answer (acknowledgement s.end.window) ∷ [])
      (rr_is_tagged s.end.window h.tags, tt)
      (changed _ (without_ack_pending_are_tags s.end.window h.tags) h);
}

-- ---- A whole step.

the_number : (n nr : ℕ) → n < 128 → Some n ≡ Some nr → nr < 128
the_number n nr small same = grind (arith, small, same)

below_128 : (n : ℕ) → IsControl (Rr n true) → n < 128
below_128 n h = omega (arith, h)

pub received_is_tag : (input : Input) (nr : ℕ) → CarriesNumbers Tagged input
    → received_number input ≡ Some nr → nr < 128
received_is_tag (Heard (I ns n p) role) nr h same = the_number n nr (below_128 n h.1) same
received_is_tag (Heard (Rr n pf) role) nr h same = the_number n nr (below_128 n h) same
received_is_tag (Heard (Rnr n pf) role) nr h same = the_number n nr (below_128 n h) same
received_is_tag (Heard (Rej n pf) role) nr h same = the_number n nr (below_128 n h) same
received_is_tag input nr h same = cc

tags_of_step : (input : Input) (e : End) (s : StepState) → AreTags e.window
    → CarriesNumbers Tagged input → step Tagged input e ≡ Ok s → AllTags s
unfolding step begin
tags_of_step input e s numbers reception done =
    subst AllTags
    (taken (refused input e) (end_step Tagged (row Tagged e.state input (begin e))) s done).1
    (close_preserves Tagged _ AllTags AllTags _ _ _ _ _ _ tags (row Tagged e.state input (begin e))
    tt
    (row_preserves Tagged _ AllTags AllTags _ _ _ _ _ _ tags e.state input (begin e)
    (λ message same. tt) (λ b. tt) (λ opened ns nr p same. tt) (λ u. tt) (λ there same. tt)
    (λ nr same. received_is_tag input nr reception same) (λ timer same. tt)
    (record { tags = numbers; sent = tt })))

any_numbers : (outs : List Out) → AreNumbered Whole outs
any_numbers [] = tt
any_numbers (Send role control ∷ outs) = (tt, any_numbers outs)
any_numbers (SendMessage place control ∷ outs) = (tt, any_numbers outs)
any_numbers (SendUnit ∷ outs) = (tt, any_numbers outs)
any_numbers (Up ∷ outs) = (tt, any_numbers outs)
any_numbers (UnitUp ∷ outs) = (tt, any_numbers outs)
any_numbers (Established ∷ outs) = (tt, any_numbers outs)
any_numbers (Confirmed ∷ outs) = (tt, any_numbers outs)
any_numbers (Released ∷ outs) = (tt, any_numbers outs)
any_numbers (ReleaseConfirm ∷ outs) = (tt, any_numbers outs)
any_numbers (Acknowledged n ∷ outs) = (tt, any_numbers outs)
any_numbers (Dropped n ∷ outs) = (tt, any_numbers outs)
any_numbers (Start timer ∷ outs) = (tt, any_numbers outs)
any_numbers (Stop timer ∷ outs) = (tt, any_numbers outs)
any_numbers (Report letter ∷ outs) = (tt, any_numbers outs)

pub numbers_stay : (r : Reading) (input : Input) (e : End) (s : StepState) → AreNumbers r e.window
    → CarriesNumbers r input → step r input e ≡ Ok s → AreNumbers r s.end.window
numbers_stay Whole input e s numbers reception done = tt
numbers_stay Tagged input e s numbers reception done =
    (tags_of_step input e s numbers reception done).tags

pub numbers_are_sent : (r : Reading) (input : Input) (e : End) (s : StepState)
    → AreNumbers r e.window → CarriesNumbers r input → step r input e ≡ Ok s → AreNumbered r s.outs
numbers_are_sent Whole input e s numbers reception done = any_numbers s.outs
numbers_are_sent Tagged input e s numbers reception done =
    (tags_of_step input e s numbers reception done).sent
