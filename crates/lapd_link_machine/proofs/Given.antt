-- A message that is sent at once: the end of its step sends it and nothing else.
use Rattle.std.proofs.Common.{◌≡◌, ◌+◌, ◌-◌, ◌≤◌, ◌==◌, ℕ, nat_lt, Bool, true, false, ◌&&◌, not, List, [], ◌∷◌, length, Some, Result, Ok, Err, IfOk, OnErr, refl, sym, ap, ◌∙◌, arith}
use Rattle.std.proofs.lemmas.Bool.Decides.{nat_tests}
use Rattle.std.proofs.lemmas.List.{length-append}
use Rattle.lapd_mod128.specs.Counting.{Tagged}
use Rattle.lapd_supervision.specs.StateVariables.{StateVariables, AreTags, may_send, after_sending}
use Rattle.lapd_link_definition.specs.declared.state.State.TheVariants.{MultipleFrameEstablished}
use Rattle.lapd_link_definition.specs.declared.event.LinkFault.{LinkFault}
use Rattle.lapd_link_definition.specs.declared.out.Out.{Out}
use Rattle.lapd_link_definition.specs.End.{End, StepState, begin, waiting}
use Rattle.lapd_link_definition.specs.EndOfStep.{may_send_next, send_next, acknowledge_pending, end_step}
use Rattle.lapd_link_definition.specs.Parameters.{Parameters}
use Rattle.lapd_link_definition.specs.Input.{Give}
use Rattle.lapd_link_definition.specs.Refusal.{refused, refused_when_full}
use Rattle.lapd_link_definition.specs.Procedures.{queue_up, transmit_i_frame, ensure_t200}
use Rattle.lapd_link_definition.proofs.Sending.{sends_one, sends_none}
use Rattle.lapd_link_machine.specs.declared.machine.Machine.{Machine}
use Rattle.lapd_link_machine.specs.Represents.{Represents, DoesQuietly}
use Rattle.lapd_link_machine.specs.declared.machine.given.GivenOuts.{GivenOuts}
use Rattle.lapd_link_machine.specs.Given.{given_outs, is_sent_at_once, sends_at_once}
use Rattle.lapd_link_machine.specs.Sent.{IsBetweenSteps}
use Rattle.lapd_link_machine.specs.Predicted.{is_idle, is_idle_machine}
use Rattle.lapd_link_machine.proofs.BetweenSteps.{end_of, shows_end, stays_between, step_done, not_full, queued_and_closed}
use Rattle.lapd_link_machine.proofs.Tails.{tail_waiting}
use Rattle.lapd_link_machine.proofs.Predicted.{idle_only_if, neither, second_is_false, third_is_false}

one_left : (next first given sent waiting : ℕ) → next ≡ first + sent → first ≤ given
    → given - first ≡ waiting → sent + 1 ≡ waiting → nat_lt next given ≡ true
one_left next first given sent waiting n within w one = grind (arith, nat_tests)

none_left : (next first given sent waiting : ℕ) → next ≡ first + sent → first ≤ given
    → given - first ≡ waiting → sent + 1 ≡ waiting → nat_lt (next + 1) given ≡ false
none_left next first given sent waiting n within w one = grind (arith, nat_tests)

-- the window of the same variables is as open
may_of : (p q : Parameters) (v u : StateVariables) → p ≡ q → v ≡ u → may_send Tagged q.k u ≡ true
    → may_send Tagged p.k v ≡ true
may_of p q v u same alike h = rw (same, alike) h

module _ (m : Machine) (outs : List Out) (s : StepState)
    (state : m.state ≡ MultipleFrameEstablished) (one : m.queue.sent + 1 ≡ length m.queue.messages)
    (opened : may_send Tagged m.params.k m.window ≡ true) (h : Represents m outs s) where
  sends_now : may_send_next Tagged s ≡ true
  sends_now =
      let left =
      one_left s.end.next s.end.first (length s.end.given) m.queue.sent
      (length m.queue.messages) h.queue.next_is h.queue.within
      (tail_waiting _ _ _ _ h.queue) one in
      rw (h.state ∙ state, may_of _ _ _ _ h.parameters h.window opened, left) refl

  sends_no_more : may_send_next Tagged (send_next Tagged s) ≡ false
  unfolding transmit_i_frame ensure_t200
  sends_no_more =
      let left =
      none_left s.end.next s.end.first (length s.end.given) m.queue.sent
      (length m.queue.messages) h.queue.next_is h.queue.within
      (tail_waiting _ _ _ _ h.queue) one in
      rw left (neither _ _)

  none_pending : acknowledge_pending (send_next Tagged s) ≡ send_next Tagged s
  unfolding acknowledge_pending transmit_i_frame ensure_t200 after_sending
  none_pending = rw (h.state ∙ state) refl

  pub ends_with_one : end_step Tagged s ≡ send_next Tagged s
  unfolding end_step
  ends_with_one =
      ap acknowledge_pending
      (sends_one Tagged s sends_now ∙ sends_none Tagged _ (send_next Tagged s) sends_no_more)
      ∙ none_pending

-- ---- A message joins the queue of an idle machine.

module _ (m n : Machine) (message : List ℕ) (between : IsBetweenSteps m)
    (does : DoesQuietly m n (queue_up message)) where
  queued : Represents n [] (queue_up message (begin (end_of m)))
  queued = does (begin (end_of m)) [] (shows_end m between)

  pub state_when_queued : m.state ≡ MultipleFrameEstablished → n.state ≡ MultipleFrameEstablished
  unfolding queue_up begin
  state_when_queued state = sym queued.state ∙ state

  pub one_unsent : m.queue.sent ≡ length m.queue.messages
      → n.queue.sent + 1 ≡ length n.queue.messages
  unfolding queue_up begin
  one_unsent sent =
      let more : length n.queue.messages ≡ length m.queue.messages + 1 =
      ap length (sym queued.queue.messages)
      ∙ length-append m.queue.messages (message ∷ []) in
      omega (arith, more, sent, queued.queue.next_is)

  pub still_open : may_send Tagged m.params.k m.window ≡ true
      → may_send Tagged n.params.k n.window ≡ true
  unfolding queue_up begin
  still_open h =
      may_of n.params m.params n.window m.window (sym queued.parameters) (sym queued.window) h

-- ---- The messages that are not sent at once.

then_second : (a b : Bool) → a ≡ true → (a && b) ≡ false → b ≡ false
then_second true b same h = h
then_second false b same h = cc

same_window : (p q : Parameters) (v u : StateVariables) → p ≡ q → v ≡ u
    → may_send Tagged p.k v ≡ may_send Tagged q.k u
same_window p q v u same alike = rw (same, alike) refl

-- a message is unsent, or the window is closed
pub not_at_once : (m : Machine) (e : End) → m.queue.sent ≤ length m.queue.messages
    → Represents m [] (begin e)
    → (is_idle_machine m && may_send Tagged m.params.k m.window) ≡ false → sends_at_once e ≡ false
unfolding begin
not_at_once m e most h closed = by (is_idle_machine m) refl
  where
    by : (idle : Bool) → is_idle_machine m ≡ idle → sends_at_once e ≡ false
    by false busy = rw (idle_only_if m e most h busy) refl
    by true idle =
        second_is_false (is_idle e) _
        (rw (same_window _ _ _ _ h.parameters h.window ∙ then_second _ _ idle closed) refl)

-- the queue is full
pub not_when_full : (m : Machine) (e : End) → Represents m [] (begin e)
    → (length m.queue.messages == m.queue.room) ≡ true → sends_at_once e ≡ false
unfolding begin
not_when_full m e h full =
    third_is_false (is_idle e) (may_send Tagged e.parameters.k e.window)
    (not (waiting e == e.parameters.room)) (rw (tail_waiting _ _ _ _ h.queue, h.room, full) refl)

-- the message is refused
pub not_when_refused : (message : List ℕ) (e : End) (fault : LinkFault)
    → refused (Give message) e ≡ Some fault → is_sent_at_once message e ≡ false
not_when_refused message e fault is = second_is_false (sends_at_once e) _ (rw is refl)

-- ---- The step of a message.

pub on_err : {X Y : Type 0} (r : Result X Y) (P Q : Type 0) → (P → Q) → OnErr r P → OnErr r Q
on_err (Ok x) P Q f h = h
on_err (Err y) P Q f h = f h

pub if_ok : {X Y : Type 0} (r : Result X Y) (P Q R : X → Type 0) → ((x : X) → P x → Q x → R x)
    → IfOk r P → IfOk r Q → IfOk r R
if_ok (Ok x) P Q R f h k = f x h k
if_ok (Err y) P Q R f h k = h

-- a machine stays between two steps
pub stays_between_when_given : {Y : Type 0} (r : Result GivenOuts Y) (message : List ℕ)
    (m n : Machine) → IsBetweenSteps m
    → ((e : End) → Represents m [] (begin e) → refused (Give message) e
    ≡ refused_when_full (length m.queue.messages == m.queue.room))
    → IfOk r (λ outs. (e : End) → Represents m [] (begin e) → Represents n
    (given_outs outs) (end_step Tagged (queue_up message (begin e))))
    → IfOk r (λ outs. (length m.queue.messages == m.queue.room) ≡ false)
    → OnErr r (n ≡ m) → AreTags n.window → IsBetweenSteps n
stays_between_when_given (Ok outs) message m n between refusal done room same numbers =
    let shown = shows_end m between in
    let none = not_full _ _ (refusal (end_of m) shown) room in
    stays_between (Give message) m n _ _ between (step_done (Give message) (end_of m) (sym none))
    (queued_and_closed _ _ message (end_of m) none (done (end_of m) shown)) numbers
stays_between_when_given (Err y) message m n between refusal done room same numbers =
    rw same between
