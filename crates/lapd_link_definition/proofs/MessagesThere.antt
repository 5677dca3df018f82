-- Each message that is sent exists.
use Rattle.std.proofs.Common.{◌≡◌, ℕ, zero, suc, ◌+◌, ◌-◌, ◌<◌, ◌≤◌, ◌==◌, ◌&&◌, nat_lt, not, Bool, true, false, if◌then◌else◌, List, [], ◌∷◌, ◌++◌, length, Ok, refl, subst, arith}
use Rattle.std.proofs.lemmas.Bool.Decides.{nat_tests}
use Rattle.lapd_timers.specs.declared.timer.Timer.TheVariants.{T200, T203}
use Rattle.lapd_frame.specs.declared.Role.TheVariants.{Answer}
use Rattle.lapd_mod128.specs.Counting.{Reading, Whole, Tagged, reaches, steps}
use Rattle.lapd_supervision.specs.StateVariables.{StateVariables, may_send, acknowledgement, next_i_frame}
use Rattle.lapd_link_definition.specs.declared.recovery.Recovery.{Recovery}
use Rattle.lapd_link_definition.specs.declared.recovery.Recovery.TheVariants.{Enquiry, LastMessage}
use Rattle.lapd_link_definition.specs.declared.state.State.{State}
use Rattle.lapd_link_definition.specs.declared.state.State.TheVariants.{MultipleFrameEstablished}
use Rattle.lapd_link_definition.specs.declared.out.Out.{Out}
use Rattle.lapd_link_definition.specs.declared.out.Out.TheVariants.{Send, SendMessage, Start, Stop}
use Rattle.lapd_link_definition.specs.EndOfStep.{is_7_or_8, is_established, may_send_next, send_next, send_all, acknowledge_pending, end_step}
use Rattle.lapd_link_definition.specs.Counts.{IsPlaced, ArePlaced}
use Rattle.lapd_link_definition.specs.End.{End, StepState, begin, waiting, unsent, runs}
use Rattle.lapd_link_definition.specs.Established.{sends_last, established_t200, multiple_frame_established}
use Rattle.lapd_link_definition.specs.Input.{Input, Expiry}
use Rattle.lapd_link_definition.specs.Numbers.{AreNumbers}
use Rattle.lapd_link_definition.specs.Procedures.{out_where, state_to, rc_to, expired, transmit_enquiry, retransmit_last_i_frame, transmit_rr, transmit_i_frame, ensure_t200}
use Rattle.lapd_link_definition.specs.Refusal.{refused}
use Rattle.lapd_link_definition.specs.Sound.{AreOutstanding, IsSoundIn, IsSound}
use Rattle.lapd_link_definition.specs.Table.{by_state, row, step}
use Rattle.lapd_link_definition.proofs.EachAction.{either}
use Rattle.lapd_link_definition.proofs.PreservedByStep.{taken, row_preserves_parameters}
use Rattle.lapd_link_definition.proofs.OrderOfStep.{AreSilent, placed_both, silent_row}
use Rattle.lapd_link_definition.proofs.Sending.{both_true, below}
use Rattle.lapd_link_definition.proofs.Soundness.{established_is, sound_row, sound_send_next}

-- ---- Places.

is_among_more : (few many : ℕ) (out : Out) → few ≤ many → IsPlaced few out → IsPlaced many out
is_among_more few many (SendMessage place control) less h = omega (arith, less, h)
is_among_more few many out less h = tt

are_among_more : (few many : ℕ) (outs : List Out) → few ≤ many → ArePlaced few outs
    → ArePlaced many outs
are_among_more few many [] less h = tt
are_among_more few many (out ∷ outs) less h =
    (is_among_more few many out less h.0, are_among_more few many outs less h.1)

from_silence : (waiting : ℕ) (outs : List Out) → AreSilent outs → ArePlaced waiting outs
from_silence waiting outs h = are_among_more 0 waiting outs (omega arith) h

-- the timers that are started and stopped with a message
with_timers : (waiting : ℕ) (t200 t203 : Bool) (outs : List Out) → ArePlaced waiting outs
    → ArePlaced waiting (outs ++ (if t200 then [] else out_where t203 (Stop T203))
    ++ (if t200 then [] else Start T200 ∷ []))
with_timers waiting true t203 outs h =
    placed_both waiting (outs ++ []) [] (placed_both waiting outs [] h tt) tt
with_timers waiting false true outs h =
    placed_both waiting (outs ++ Stop T203 ∷ []) (Start T200 ∷ [])
    (placed_both waiting outs (Stop T203 ∷ []) h (tt, tt)) (tt, tt)
with_timers waiting false false outs h =
    placed_both waiting (outs ++ []) (Start T200 ∷ []) (placed_both waiting outs [] h tt) (tt, tt)

-- all messages that were sent so far exist
abbrev AllThere : StepState → Type 0
AllThere s = ArePlaced (waiting s.end) s.outs

-- ---- The last message is retransmitted.

some_steps : (r : Reading) (m : StateVariables) → AreNumbers r m → reaches r m.va m.vs ≡ true
    → (m.vs == m.va) ≡ false → 0 < steps r m.va m.vs
unfolding steps reaches
some_steps Whole m numbers reached other = grind (arith, nat_tests)
some_steps Tagged m numbers reached other =
    let apart : (m.vs ≡ m.va → ⊥) = λ same. grind (arith, nat_tests, other, same) in
    omega (arith, numbers.0, numbers.1, apart)

last_is_there : (first next given outstanding : ℕ) → next ≡ first + outstanding → 0 < outstanding
    → next ≤ given → next - 1 - first < given - first
last_is_there first next given outstanding places some within = omega (arith, places, some, within)

is_false : (b : Bool) → not b ≡ true → b ≡ false
is_false true h = cc
is_false false h = refl

sends_other : (recovery : Recovery) (m : StateVariables) → sends_last recovery m ≡ true
    → (m.vs == m.va) ≡ false
sends_other Enquiry m h = cc
sends_other LastMessage m h =
    is_false (m.vs == m.va) (both_true (not m.peer_busy) (not (m.vs == m.va)) h).1

t200_there : (r : Reading) (e : End)
    → AreOutstanding r e.first e.next (length e.given) e.window.va e.window.vs
    → AreNumbers r e.window → AllThere (established_t200 r (begin e))
unfolding established_t200 begin expired retransmit_last_i_frame transmit_enquiry rc_to state_to
t200_there r e o numbers = either AllThere (sends_last e.parameters.recovery e.window) _ _
    (λ last. (
      last_is_there e.first e.next (length e.given) (steps r e.window.va e.window.vs)
          o.places (some_steps r e.window numbers o.reached
          (sends_other e.parameters.recovery e.window last)) o.within,
      (tt, tt),
    ))
    (λ _. (tt, (tt, tt)))

begins_there : (e : End) → AllThere (begin e)
unfolding begin
begins_there e = tt

t200_row_there : (r : Reading) (e : End)
    → AreOutstanding r e.first e.next (length e.given) e.window.va e.window.vs
    → AreNumbers r e.window → AllThere (row r MultipleFrameEstablished (Expiry T200) (begin e))
unfolding row by_state multiple_frame_established
t200_row_there r e o numbers =
    either AllThere (runs T200 (begin e).end) _ _ (λ _. t200_there r e o numbers)
    (λ _. begins_there e)

-- ---- A row, the end of a step, and a whole step.

row_there : (r : Reading) (state : State) (input : Input) (e : End) → IsSoundIn r state e
    → AreNumbers r e.window → AllThere (row r state input (begin e))
row_there r MultipleFrameEstablished (Expiry T200) e sound numbers =
    t200_row_there r e sound numbers
row_there r state input e sound numbers =
    from_silence _ (row r state input (begin e)).outs
    (silent_row r state input e (λ there same. cc))

next_is_there : (first next given outstanding : ℕ) → next ≡ first + outstanding → next < given
    → next - first < given - first
next_is_there first next given outstanding places free = omega (arith, places, free)

send_next_there : (r : Reading) (s : StepState) → may_send_next r s ≡ true → IsSound r s.end
    → AllThere s → AllThere (send_next r s)
unfolding transmit_i_frame ensure_t200
send_next_there r s go sound h =
    let one =
    both_true (is_established s.end.state)
    (may_send r s.end.parameters.k s.end.window && nat_lt s.end.next (length s.end.given))
    go in
    let two =
    both_true (may_send r s.end.parameters.k s.end.window)
    (nat_lt s.end.next (length s.end.given)) one.1 in
    let state = established_is s.end.state one.0 in
    let o : AreOutstanding r s.end.first s.end.next (length s.end.given) s.end.window.va
    s.end.window.vs =
    rw state at sound in
    let there =
    next_is_there s.end.first s.end.next (length s.end.given)
    (steps r s.end.window.va s.end.window.vs) o.places
    (below s.end.next (length s.end.given) two.1) in
    with_timers (waiting s.end) s.end.t200 s.end.t203
    (s.outs ++ SendMessage (s.end.next - s.end.first) (next_i_frame s.end.window) ∷ [])
    (placed_both (waiting s.end) s.outs
    (SendMessage (s.end.next - s.end.first) (next_i_frame s.end.window) ∷ []) h (there, tt))

same_parameters : (r : Reading) (s : StepState) → s.end.parameters.k ≤ 127
    → (send_next r s).end.parameters.k ≤ 127
unfolding transmit_i_frame ensure_t200
same_parameters r s small = small

send_all_there : (r : Reading) (n : ℕ) (s : StepState) → s.end.parameters.k ≤ 127 → IsSound r s.end
    → AllThere s → AllThere (send_all r n s)
unfolding send_all
send_all_there r zero s small sound h = h
send_all_there r (suc n) s small sound h = either AllThere (may_send_next r s) _ s
    (λ go. send_all_there r n (send_next r s) (same_parameters r s small)
    (sound_send_next r s small go sound) (send_next_there r s go sound h)) (λ _. h)

rr_there : (s : StepState) → AllThere s → AllThere (transmit_rr s)
unfolding transmit_rr
rr_there s h =
    placed_both (waiting s.end) s.outs (Send Answer (acknowledgement s.end.window) ∷ []) h (tt, tt)

close_there : (r : Reading) (s : StepState) → s.end.parameters.k ≤ 127 → IsSound r s.end
    → AllThere s → AllThere (end_step r s)
unfolding end_step acknowledge_pending
close_there r s small sound h =
    let t = send_all r (unsent s.end) s in
    let sent = send_all_there r (unsent s.end) s small sound h in
    either AllThere (is_7_or_8 t.end.state && t.end.window.ack_pending) _ t
    (λ _. rr_there t sent) (λ _. sent)

pub messages_are_there : (r : Reading) (input : Input) (e : End) (s : StepState)
    → e.parameters.k ≤ 127 → IsSound r e → AreNumbers r e.window → step r input e ≡ Ok s
    → ArePlaced (length s.end.given - s.end.first) s.outs
unfolding step begin
messages_are_there r input e s small sound numbers done =
    let small_then : (row r e.state input (begin e)).end.parameters.k ≤ 127 =
    rw (row_preserves_parameters r input e) small in
    subst AllThere (taken (refused input e) (end_step r (row r e.state input (begin e))) s done).1
    (close_there r (row r e.state input (begin e)) small_then
    (sound_row r e.state input (begin e) refl sound)
    (row_there r e.state input e sound numbers))
