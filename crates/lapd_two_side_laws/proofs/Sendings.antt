-- Each message that a step sends is outstanding after the step; and each outstanding message was last
-- sent in the present establishment.
use Rattle.std.proofs.Common.{◌≡◌, ◌⊎◌, inl, inr, ℕ, zero, suc, ◌+◌, ◌-◌, ◌<◌, ◌≤◌, ◌==◌, ◌&&◌, nat_le, nat_lt, not, Bool, true, false, if◌then◌else◌, List, [], ◌∷◌, ◌++◌, length, Option, Some, Ok, refl, sym, ap, subst, ◌∙◌, arith}
use Rattle.std.proofs.lemmas.Bool.Decides.{nat_tests}
use Rattle.lapd_timers.specs.declared.timer.Timer.TheVariants.{T200, T203}
use Rattle.lapd_frame.specs.declared.Role.TheVariants.{Answer}
use Rattle.lapd_mod128.specs.Counting.{Reading, Whole, Tagged, reaches, steps}
use Rattle.lapd_supervision.specs.StateVariables.{StateVariables, may_send, acknowledgement, next_i_frame}
use Rattle.lapd_link_definition.specs.declared.recovery.Recovery.{Recovery}
use Rattle.lapd_link_definition.specs.declared.recovery.Recovery.TheVariants.{Enquiry, LastMessage}
use Rattle.lapd_link_definition.specs.declared.state.State.{State}
use Rattle.lapd_link_definition.specs.declared.state.State.TheVariants.{TeiAssigned, AwaitingEstablishment, AwaitingRelease, MultipleFrameEstablished, TimerRecovery}
use Rattle.lapd_link_definition.specs.declared.out.Out.{Out}
use Rattle.lapd_link_definition.specs.declared.out.Out.TheVariants.{Send, SendMessage, Up, UnitUp, Acknowledged, Dropped, Start, Stop}
use Rattle.lapd_link_definition.specs.EndOfStep.{is_7_or_8, is_established, may_send_next, send_next, send_all, acknowledge_pending, end_step}
use Rattle.lapd_link_definition.specs.Counts.{IsPlaced, ArePlaced}
use Rattle.lapd_link_definition.specs.End.{End, StepState, begin, unsent, runs}
use Rattle.lapd_link_definition.specs.Established.{sends_last, established_t200, multiple_frame_established}
use Rattle.lapd_link_definition.specs.Input.{Input, Expiry}
use Rattle.lapd_link_definition.specs.Numbers.{AreNumbers}
use Rattle.lapd_link_definition.specs.Parameters.{Parameters}
use Rattle.lapd_link_definition.specs.Procedures.{out_where, state_to, rc_to, expired, transmit_enquiry, retransmit_last_i_frame, transmit_rr, transmit_i_frame, ensure_t200}
use Rattle.lapd_link_definition.specs.Refusal.{refused}
use Rattle.lapd_link_definition.specs.Sound.{AreOutstanding, IsSoundIn, IsSound}
use Rattle.lapd_link_definition.specs.Table.{by_state, row, step}
use Rattle.lapd_link_definition.proofs.PreservedByStep.{taken, row_preserves_parameters}
use Rattle.lapd_link_definition.proofs.OrderOfStep.{AreSilent, placed_both, silent_row}
use Rattle.lapd_link_definition.proofs.Sending.{both_true, below}
use Rattle.lapd_link_definition.proofs.Soundness.{established_is, sound_row, sound_send_next}
use Rattle.lapd_pair_laws.specs.Conjuncts.{IsConsistentSender}
use Rattle.lapd_pair_laws.specs.Consistent.{IsConsistent, AreInOrder}
use Rattle.lapd_pair_laws.specs.Histories.{Occasion, Story, with_beginning, after_output, after_outputs}
use Rattle.lapd_pair_laws.specs.Invariant.{IsInvariant}
use Rattle.lapd_pair_laws.specs.Move.{Move, Station, View, story_after, view_after}
use Rattle.lapd_pair_laws.specs.Parties.{Sender, party}
use Rattle.lapd_pair_laws.specs.World.{World, new_world, run}
use Rattle.lapd_pair_laws.proofs.Consistency.{outputs_in_order}
use Rattle.lapd_pair_laws.proofs.Reached.{reached_tags}
use Rattle.lapd_pair_laws.proofs.Recording.{in_order_then}
use Rattle.lapd_pair_laws.proofs.Whole.{each_run_preserves}
use Rattle.lapd_pair_laws.proofs.Worlds.{new_holds}
use Rattle.lapd_two_side_laws.specs.Establishments.{is_outstanding}

-- ---- A message that is sent has a place among those that are outstanding after the step.

-- how many messages are outstanding
abbrev outstanding : End → ℕ
outstanding e = if is_7_or_8 e.state then e.next - e.first else 0

abbrev AllOutstanding : StepState → Type 0
AllOutstanding s = ArePlaced (outstanding s.end) s.outs

is_among_more : (few many : ℕ) (out : Out) → few ≤ many → IsPlaced few out → IsPlaced many out
is_among_more few many (SendMessage place control) less h = omega (arith, less, h)
is_among_more few many out less h = tt

are_among_more : (few many : ℕ) (outs : List Out) → few ≤ many → ArePlaced few outs
    → ArePlaced many outs
are_among_more few many [] less h = tt
are_among_more few many (out ∷ outs) less h =
    (is_among_more few many out less h.0, are_among_more few many outs less h.1)

from_silence : (many : ℕ) (outs : List Out) → AreSilent outs → ArePlaced many outs
from_silence many outs h = are_among_more 0 many outs (omega arith) h

-- the timers that are started and stopped with a message
with_timers : (many : ℕ) (t200 t203 : Bool) (outs : List Out) → ArePlaced many outs
    → ArePlaced many (outs ++ (if t200 then [] else out_where t203 (Stop T203))
    ++ (if t200 then [] else Start T200 ∷ []))
with_timers many true t203 outs h =
    placed_both many (outs ++ []) [] (placed_both many outs [] h tt) tt
with_timers many false true outs h =
    placed_both many (outs ++ Stop T203 ∷ []) (Start T200 ∷ [])
    (placed_both many outs (Stop T203 ∷ []) h (tt, tt)) (tt, tt)
with_timers many false false outs h =
    placed_both many (outs ++ []) (Start T200 ∷ []) (placed_both many outs [] h tt) (tt, tt)

by_test : (test : Bool) (x y : StepState) → (test ≡ true → AllOutstanding x)
    → (test ≡ false → AllOutstanding y) → AllOutstanding (if test then x else y)
by_test true x y one other = one refl
by_test false x y one other = other refl

-- ---- The last message is retransmitted.

some_steps : (r : Reading) (m : StateVariables) → AreNumbers r m → reaches r m.va m.vs ≡ true
    → (m.vs == m.va) ≡ false → 0 < steps r m.va m.vs
unfolding steps reaches
some_steps Whole m numbers reached other = grind (arith, nat_tests)
some_steps Tagged m numbers reached other =
    let apart : (m.vs ≡ m.va → ⊥) = λ same. grind (arith, nat_tests, other, same) in
    omega (arith, numbers.0, numbers.1, apart)

last_is_outstanding : (first next many : ℕ) → next ≡ first + many → 0 < many
    → next - 1 - first < next - first
last_is_outstanding first next many places some = omega (arith, places, some)

is_false : (b : Bool) → not b ≡ true → b ≡ false
is_false true h = cc
is_false false h = refl

sends_other : (recovery : Recovery) (m : StateVariables) → sends_last recovery m ≡ true
    → (m.vs == m.va) ≡ false
sends_other Enquiry m h = cc
sends_other LastMessage m h =
    is_false (m.vs == m.va) (both_true (not m.peer_busy) (not (m.vs == m.va)) h).1

t200_outstanding : (r : Reading) (e : End)
    → AreOutstanding r e.first e.next (length e.given) e.window.va e.window.vs
    → AreNumbers r e.window → AllOutstanding (established_t200 r (begin e))
unfolding established_t200 begin expired retransmit_last_i_frame transmit_enquiry rc_to state_to
t200_outstanding r e o numbers = by_test (sends_last e.parameters.recovery e.window) _ _
    (λ last. (
      last_is_outstanding e.first e.next (steps r e.window.va e.window.vs) o.places
          (some_steps r e.window numbers o.reached
          (sends_other e.parameters.recovery e.window last)),
      (tt, tt),
    ))
    (λ _. (tt, (tt, tt)))

begins_outstanding : (e : End) → AllOutstanding (begin e)
unfolding begin
begins_outstanding e = tt

t200_row_outstanding : (r : Reading) (e : End)
    → AreOutstanding r e.first e.next (length e.given) e.window.va e.window.vs
    → AreNumbers r e.window
    → AllOutstanding (row r MultipleFrameEstablished (Expiry T200) (begin e))
unfolding row by_state multiple_frame_established
t200_row_outstanding r e o numbers =
    by_test (runs T200 (begin e).end) _ _ (λ _. t200_outstanding r e o numbers)
    (λ _. begins_outstanding e)

-- ---- A row, the end of a step, and a whole step.

row_outstanding : (r : Reading) (state : State) (input : Input) (e : End) → IsSoundIn r state e
    → AreNumbers r e.window → AllOutstanding (row r state input (begin e))
row_outstanding r MultipleFrameEstablished (Expiry T200) e sound numbers =
    t200_row_outstanding r e sound numbers
row_outstanding r state input e sound numbers =
    from_silence _ (row r state input (begin e)).outs
    (silent_row r state input e (λ there same. cc))

one_more_outstanding : (first next many : ℕ) → next ≡ first + many
    → (next - first ≤ next + 1 - first) × (next - first < next + 1 - first)
one_more_outstanding first next many places = (omega (arith, places), omega (arith, places))

send_next_outstanding : (r : Reading) (s : StepState) → may_send_next r s ≡ true → IsSound r s.end
    → AllOutstanding s → AllOutstanding (send_next r s)
unfolding transmit_i_frame ensure_t200
send_next_outstanding r s go sound h =
    let one =
    both_true (is_established s.end.state)
    (may_send r s.end.parameters.k s.end.window && nat_lt s.end.next (length s.end.given))
    go in
    let state = established_is s.end.state one.0 in
    let opened : is_7_or_8 s.end.state ≡ true = ap is_7_or_8 state in
    let o : AreOutstanding r s.end.first s.end.next (length s.end.given) s.end.window.va
    s.end.window.vs =
    rw state at sound in
    let more =
    one_more_outstanding s.end.first s.end.next (steps r s.end.window.va s.end.window.vs)
    o.places in
    let before : ArePlaced (s.end.next - s.end.first) s.outs = rw opened at h in
    rw opened (with_timers (s.end.next + 1 - s.end.first) s.end.t200 s.end.t203
    (s.outs ++ SendMessage (s.end.next - s.end.first) (next_i_frame s.end.window) ∷ [])
    (placed_both (s.end.next + 1 - s.end.first) s.outs
    (SendMessage (s.end.next - s.end.first) (next_i_frame s.end.window) ∷ [])
    (are_among_more _ _ s.outs more.0 before) (more.1, tt)))

same_parameters : (r : Reading) (s : StepState) → s.end.parameters.k ≤ 127
    → (send_next r s).end.parameters.k ≤ 127
unfolding transmit_i_frame ensure_t200
same_parameters r s small = small

send_all_outstanding : (r : Reading) (n : ℕ) (s : StepState) → s.end.parameters.k ≤ 127
    → IsSound r s.end → AllOutstanding s → AllOutstanding (send_all r n s)
unfolding send_all
send_all_outstanding r zero s small sound h = h
send_all_outstanding r (suc n) s small sound h =
    by_test (may_send_next r s) (send_all r n (send_next r s)) s
    (λ go. send_all_outstanding r n
    (send_next r s) (same_parameters r s small) (sound_send_next r s small go sound)
    (send_next_outstanding r s go sound h)) (λ _. h)

rr_outstanding : (s : StepState) → AllOutstanding s → AllOutstanding (transmit_rr s)
unfolding transmit_rr
rr_outstanding s h =
    placed_both (outstanding s.end) s.outs (Send Answer (acknowledgement s.end.window) ∷ []) h
    (tt, tt)

close_outstanding : (r : Reading) (s : StepState) → s.end.parameters.k ≤ 127 → IsSound r s.end
    → AllOutstanding s → AllOutstanding (end_step r s)
unfolding end_step acknowledge_pending
close_outstanding r s small sound h =
    let sent = send_all_outstanding r (unsent s.end) s small sound h in
    by_test (is_7_or_8 (send_all r (unsent s.end) s).end.state
    && (send_all r (unsent s.end) s).end.window.ack_pending)
    (transmit_rr (send_all r (unsent s.end) s)) (send_all r (unsent s.end) s)
    (λ _. rr_outstanding (send_all r (unsent s.end) s) sent) (λ _. sent)

sent_are_outstanding : (r : Reading) (input : Input) (e : End) (s : StepState)
    → e.parameters.k ≤ 127 → IsSound r e → AreNumbers r e.window → step r input e ≡ Ok s
    → ArePlaced (outstanding s.end) s.outs
unfolding step begin
sent_are_outstanding r input e s small sound numbers done =
    let small_then : (row r e.state input (begin e)).end.parameters.k ≤ 127 =
    rw (row_preserves_parameters r input e) small in
    subst AllOutstanding
    (taken (refused input e) (end_step r (row r e.state input (begin e))) s done).1
    (close_outstanding r (row r e.state input (begin e)) small_then
    (sound_row r e.state input (begin e) refl sound)
    (row_outstanding r e.state input e sound numbers))

-- ---- So a step changes the establishment of no message that is not outstanding after it.

at_place : (opened : Bool) (first next n passed place : ℕ)
    → n < (if opened then next - first else 0) → passed ≡ first → place ≡ passed + n
    → (opened && (nat_le first place && nat_lt place next)) ≡ true
at_place true first next n passed place within at same =
    let low : nat_le first place ≡ true = grind (arith, nat_tests, within, at, same) in
    let high : nat_lt place next ≡ true = grind (arith, nat_tests, within, at, same) in
    rw (low, high) refl
at_place false first next n passed place within at same = absurd (omega (arith, within))

set_by_test : (test : Bool) (e : End) (place at establishment : ℕ) (before : ℕ → Option ℕ)
    → (place == at) ≡ test → (place ≡ at → is_outstanding e place ≡ true)
    → ((if test then Some establishment else before place) ≡ before place)
    ⊎ (is_outstanding e place ≡ true)
set_by_test true e place at establishment before is there =
    inr (there (grind (arith, nat_tests, is)))
set_by_test false e place at establishment before is there = inl refl

-- the establishment of a message is unchanged, or the message is outstanding
abbrev pub IsKeptOrSent : End → (ℕ → Option ℕ) → (ℕ → Option ℕ) → ℕ → Type 0
IsKeptOrSent e before now place = (now place ≡ before place) ⊎ (is_outstanding e place ≡ true)

one_sends : (e : End) (o : Occasion) (out : Out) (outs : List Out) (t : Story)
    → AreInOrder e t.history.passed (out ∷ outs) → IsPlaced (outstanding e) out → (place : ℕ)
    → IsKeptOrSent e t.history.sent_in (after_output o out t).history.sent_in place
one_sends e o (SendMessage n control) outs t order within place =
    let first : t.history.passed ≡ e.first = omega (arith, order.first, order.counted.0) in
    set_by_test (place == t.history.passed + n) e place (t.history.passed + n) o.establishment
    t.history.sent_in refl
    (λ same. at_place (is_7_or_8 e.state) e.first e.next n t.history.passed place within first same)
one_sends e o (Acknowledged n) outs t order within place = inl refl
one_sends e o (Dropped n) outs t order within place = inl refl
one_sends e o Up outs t order within place = inl refl
one_sends e o UnitUp outs t order within place = inl refl
one_sends e o out outs t order within place = inl refl

all_send : (e : End) (o : Occasion) (outs : List Out) (t : Story)
    → AreInOrder e t.history.passed outs → ArePlaced (outstanding e) outs → (place : ℕ)
    → IsKeptOrSent e t.history.sent_in (after_outputs o outs t).history.sent_in place
all_send e o [] t order within place = inl refl
all_send e o (out ∷ outs) t order within place =
    elim (all_send e
    o outs (after_output o out t) (in_order_then e o out outs t order) within.1 place) [
      | inl later ↦ elim (one_sends e o out outs t order within.0 place) [
        | inl now ↦ inl (later ∙ now)
        | inr sent ↦ inr sent
      ]
      | inr sent ↦ inr sent
    ]

pub step_sends : (r : Reading) (input : Input) (octets : List ℕ) (at : ℕ) (v : View) (s : StepState)
    → IsConsistent r v.station → step r input v.station.end ≡ Ok s → (place : ℕ)
    → IsKeptOrSent s.end v.station.history.sent_in
    (view_after octets at v s).station.history.sent_in place
unfolding view_after story_after
step_sends r input octets at v s preserved done place =
    all_send s.end (record {
      given = s.end.given;
      establishment = s.end.establishments;
      octets = octets;
      place = at;
    }) s.outs
    (record {
      line = v.outgoing;
      history =
          with_beginning v.station.end.establishments s.end.establishments v.station.history;
    })
    (outputs_in_order r input v.station s preserved done)
    (sent_are_outstanding r input v.station.end s preserved.window preserved.sound preserved.numbers
    done) place

-- ---- An outstanding message was last sent in the present establishment.

by_numbering : (state : State) (asked leaving : Bool) (s : Sender) (place : ℕ)
    → IsConsistentSender state asked leaving s → is_7_or_8 state ≡ true → s.first ≤ place
    → place < s.next → s.sent_in place ≡ Some s.era
by_numbering TeiAssigned asked leaving s place preserved opened low high = cc
by_numbering AwaitingEstablishment asked leaving s place preserved opened low high = cc
by_numbering AwaitingRelease asked leaving s place preserved opened low high = cc
by_numbering MultipleFrameEstablished asked leaving s place preserved opened low high =
    preserved.since place (omega (arith, preserved.first, low)) high
by_numbering TimerRecovery asked leaving s place preserved opened low high =
    preserved.since place (omega (arith, preserved.first, low)) high

-- the two bounds of an outstanding message
abbrev IsWithin : End → ℕ → Type 0
IsWithin e place = (is_7_or_8 e.state ≡ true) × (e.first ≤ place) × (place < e.next)

within_of : (e : End) (place : ℕ) → is_outstanding e place ≡ true → IsWithin e place
within_of e place is =
    let one = both_true (is_7_or_8 e.state) (nat_le e.first place && nat_lt place e.next) is in
    let two = both_true (nat_le e.first place) (nat_lt place e.next) one.1 in
    (one.0, grind (arith, nat_tests, two.0), below place e.next two.1)

abbrev pub AreSentNow : Station → Type 0
AreSentNow s =
    (place : ℕ) → is_outstanding s.end place ≡ true
    → s.history.sent_in place ≡ Some s.end.establishments

pub user_by_invariant : (w : World) → IsInvariant w → AreSentNow w.user
user_by_invariant w i place is = let h = within_of w.user.end place is in
    by_numbering w.user.end.state w.user.end.layer3_initiated w.user.end.release_pending
    (party i.user_base w.user).sends place i.both.mine.preserved h.0 h.1 h.2

pub network_by_invariant : (w : World) → IsInvariant w → AreSentNow w.network
network_by_invariant w i place is = let h = within_of w.network.end place is in
    by_numbering w.network.end.state w.network.end.layer3_initiated w.network.end.release_pending
    (party i.network_base w.network).sends place i.both.its.preserved h.0 h.1 h.2

module _ (p q : Parameters) (small_p : p.k ≤ 127) (small_q : q.k ≤ 127) (moves : List Move) where
  reached : IsInvariant (run Whole moves (new_world p q))
  reached = each_run_preserves moves (new_world p q) (new_holds p q small_p small_q)

  pub user_sends_now : AreSentNow (run Tagged moves (new_world p q)).user
  user_sends_now =
      subst (λ (w : World). AreSentNow w.user) (sym (reached_tags p q small_p small_q moves))
      (user_by_invariant (run Whole moves (new_world p q)) reached)

  pub network_sends_now : AreSentNow (run Tagged moves (new_world p q)).network
  network_sends_now =
      subst (λ (w : World). AreSentNow w.network) (sym (reached_tags p q small_p small_q moves))
      (network_by_invariant (run Whole moves (new_world p q)) reached)
