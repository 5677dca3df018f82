-- A machine between two steps. The law of the table determines how many messages are sent; it is
-- applied to the end whose messages are exactly those of the queue.
use Rattle.std.proofs.Common.{◌≡◌, ◌≤◌, ◌+◌, ℕ, zero, suc, Bool, true, false, List, [], ◌∷◌, length, drop, Option, Some, None, Ok, Err, if◌then◌else◌, refl, sym, subst, ◌∙◌, arith}
use Rattle.std.proofs.lemmas.List.Elements.{All-nil, All-cons, All-head, All-tail}
use Rattle.std.specs.List.{All}
use Rattle.lapd_frame.specs.Frame.{n201}
use Rattle.lapd_mod128.specs.Counting.{Tagged, reaches, steps}
use Rattle.lapd_supervision.specs.StateVariables.{StateVariables, AreTags}
use Rattle.lapd_link_definition.specs.declared.state.State.{State}
use Rattle.lapd_link_definition.specs.declared.state.State.TheVariants.{TeiAssigned, AwaitingEstablishment, AwaitingRelease, MultipleFrameEstablished, TimerRecovery}
use Rattle.lapd_link_definition.specs.declared.event.LinkFault.{LinkFault}
use Rattle.lapd_link_definition.specs.declared.event.LinkFault.TheVariants.{TooLong, QueueFull}
use Rattle.lapd_link_definition.specs.declared.out.Out.{Out}
use Rattle.lapd_link_definition.specs.AwaitingEstablishment.{awaiting_establishment}
use Rattle.lapd_link_definition.specs.EndOfStep.{end_step}
use Rattle.lapd_link_definition.specs.End.{End, StepState, begin}
use Rattle.lapd_link_definition.specs.Established.{in_7_and_8, multiple_frame_established}
use Rattle.lapd_link_definition.specs.Input.{Input, Give}
use Rattle.lapd_link_definition.specs.Parameters.{Parameters}
use Rattle.lapd_link_definition.specs.Procedures.{queue_up}
use Rattle.lapd_link_definition.specs.Refusal.{give_refused, refused_when_full, refused}
use Rattle.lapd_link_definition.specs.Sound.{AreAwaiting, IsSound, IsSoundIn}
use Rattle.lapd_link_definition.specs.SentFrames.{AreShort}
use Rattle.lapd_link_definition.specs.Table.{row, by_state, step}
use Rattle.lapd_link_definition.specs.TimerRecovery.{timer_recovery}
use Rattle.lapd_link_definition.proofs.PreservedByStep.{step_preserves_parameters, step_is_short}
use Rattle.lapd_link_definition.proofs.Soundness.{sound_step}
use Rattle.lapd_link_machine.specs.declared.machine.Machine.{Machine}
use Rattle.lapd_link_machine.specs.Sent.{sent_in_state, IsBetweenSteps}
use Rattle.lapd_link_machine.specs.Represents.{Represents}
use Rattle.lapd_link_machine.proofs.Tails.{tail_waiting}

abbrev pub end_of : Machine → End
end_of m = record {
  parameters = m.params;
  state = m.state;
  rc = m.rc;
  window = m.window;
  layer3_initiated = m.layer3_initiated;
  release_pending = m.release_pending;
  t200 = m.t200;
  t203 = m.t203;
  establishments = 0;
  given = m.queue.messages;
  first = 0;
  next = m.queue.sent;
}

pub shows_end : (m : Machine) → IsBetweenSteps m → Represents m [] (begin (end_of m))
unfolding begin
shows_end m between = record {
  parameters = refl;
  state = refl;
  rc = refl;
  window = refl;
  layer3_initiated = refl;
  release_pending = refl;
  t200 = refl;
  t203 = refl;
  queue = record { messages = refl; within = omega arith; next_is = omega arith };
  room = between.room;
  put = refl;
}

-- the end of one step is the start of the next
pub settles : (m : Machine) (outs : List Out) (s : StepState) → Represents m outs s
    → Represents m [] (begin s.end)
unfolding begin
settles m outs s h = record {
  parameters = h.parameters;
  state = h.state;
  rc = h.rc;
  window = h.window;
  layer3_initiated = h.layer3_initiated;
  release_pending = h.release_pending;
  t200 = h.t200;
  t203 = h.t203;
  queue = h.queue;
  room = h.room;
  put = refl;
}

-- ---- The places of an end agree with the number of sent messages.

few_steps : (a b : ℕ) → steps Tagged a b ≤ 127
unfolding steps
few_steps a b = omega arith

awaiting_from : (asked leaving : Bool) (first next given : ℕ) (m : StateVariables)
    → next ≡ first + sent_in_state AwaitingEstablishment asked leaving m → next ≤ given
    → AreAwaiting Tagged asked leaving first next given m.va m.vs
unfolding reaches
awaiting_from true leaving first next given m q h = record { places = omega (arith, q); within = h }
awaiting_from false true first next given m q h = record { places = omega (arith, q); within = h }
awaiting_from false false first next given m q h =
    record { places = q; within = h; reached = refl; at_most = few_steps _ _ }

sound_from : (state : State) (e : End)
    → e.next ≡ e.first + sent_in_state state e.layer3_initiated e.release_pending e.window
    → e.next ≤ length e.given → IsSoundIn Tagged state e
unfolding reaches
sound_from TeiAssigned e q h = record { places = omega (arith, q); within = h }
sound_from AwaitingEstablishment e q h =
    awaiting_from e.layer3_initiated e.release_pending e.first e.next (length e.given) e.window q h
sound_from AwaitingRelease e q h = record { places = omega (arith, q); within = h }
sound_from MultipleFrameEstablished e q h =
    record { places = q; within = h; reached = refl; at_most = few_steps _ _ }
sound_from TimerRecovery e q h =
    record { places = q; within = h; reached = refl; at_most = few_steps _ _ }

awaiting_to : (asked leaving : Bool) (first next given : ℕ) (m : StateVariables)
    → AreAwaiting Tagged asked leaving first next given m.va m.vs
    → next ≡ first + sent_in_state AwaitingEstablishment asked leaving m
awaiting_to true leaving first next given m h = omega (arith, h.places)
awaiting_to false true first next given m h = omega (arith, h.places)
awaiting_to false false first next given m h = h.places

awaiting_within : (asked leaving : Bool) (first next given : ℕ) (m : StateVariables)
    → AreAwaiting Tagged asked leaving first next given m.va m.vs → next ≤ given
awaiting_within true leaving first next given m h = h.within
awaiting_within false true first next given m h = h.within
awaiting_within false false first next given m h = h.within

sound_to : (state : State) (e : End) → IsSoundIn Tagged state e
    → e.next ≡ e.first + sent_in_state state e.layer3_initiated e.release_pending e.window
sound_to TeiAssigned e h = omega (arith, h.places)
sound_to AwaitingEstablishment e h =
    awaiting_to e.layer3_initiated e.release_pending e.first e.next (length e.given) e.window h
sound_to AwaitingRelease e h = omega (arith, h.places)
sound_to MultipleFrameEstablished e h = h.places
sound_to TimerRecovery e h = h.places

same_sent : (a b : State) (c d : Bool) (e f : Bool) (g h : StateVariables) → a ≡ b → c ≡ d → e ≡ f
    → g ≡ h → sent_in_state a c e g ≡ sent_in_state b d f h
same_sent a b c d e f g h p q u v = rw (p, q, u, v) refl

within_of : (state : State) (e : End) → IsSoundIn Tagged state e → e.next ≤ length e.given
within_of TeiAssigned e h = h.within
within_of AwaitingEstablishment e h =
    awaiting_within e.layer3_initiated e.release_pending e.first e.next (length e.given) e.window h
within_of AwaitingRelease e h = h.within
within_of MultipleFrameEstablished e h = h.within
within_of TimerRecovery e h = h.within

-- all sent messages are outstanding
pub is_sound : (m : Machine) → IsBetweenSteps m → IsSound Tagged (end_of m)
is_sound m between = sound_from m.state (end_of m) (omega (arith, between.sent)) between.within

-- ---- Messages of up to N201 octets.

pub are_short : (messages : List (List ℕ)) → All (λ message. length message ≤ n201) messages
    → AreShort messages
are_short [] h = tt
are_short (message ∷ messages) h = (
  All-head (λ message. length message ≤ n201) message messages h,
  are_short messages (All-tail (λ message. length message ≤ n201) message messages h),
)

all_short : (messages : List (List ℕ)) → AreShort messages
    → All (λ message. length message ≤ n201) messages
all_short [] h = All-nil (λ message. length message ≤ n201)
all_short (message ∷ messages) h =
    All-cons (λ message. length message ≤ n201) message messages h.0 (all_short messages h.1)

-- if messages are short, those after the first n are short
pub short_behind : (n : ℕ) (messages : List (List ℕ)) → AreShort messages
    → AreShort (drop n messages)
short_behind zero messages h = h
short_behind (suc n) [] h = h
short_behind (suc n) (message ∷ messages) h = short_behind n messages h.1

-- ---- A machine between two steps.

between_of : (m : Machine) (outs : List Out) (s : StepState) → Represents m outs s
    → s.end.parameters.k ≤ 127 → IsSound Tagged s.end → AreTags m.window → AreShort s.end.given
    → IsBetweenSteps m
between_of m outs s h small sound numbers short =
    let there = sound_to s.end.state s.end sound in
    let same =
    same_sent s.end.state m.state s.end.layer3_initiated m.layer3_initiated
    s.end.release_pending m.release_pending s.end.window m.window h.state h.layer3_initiated
    h.release_pending h.window in
    let Room : Parameters → Type 0 = λ p. p.room ≡ m.queue.room in
    let Few : Parameters → Type 0 = λ p. p.k ≤ 127 in
    record {
      sent = omega (arith, there, same, h.queue.next_is);
      within =
          omega (
            arith,
            within_of s.end.state s.end sound,
            h.queue.next_is,
            h.queue.within,
            tail_waiting _ _ _ _ h.queue,
          );
      room = subst Room h.parameters h.room;
      few = subst Few h.parameters small;
      numbers = numbers;
      short =
          all_short m.queue.messages
          (subst AreShort h.queue.messages (short_behind s.end.first s.end.given short));
    }

-- a step keeps this property
pub stays_between : (input : Input) (m n : Machine) (outs : List Out) (s : StepState)
    → IsBetweenSteps m
    → step Tagged input (end_of m) ≡ Ok s → Represents n outs s → AreTags n.window
    → IsBetweenSteps n
stays_between input m n outs s between done representation numbers =
    let Few : Parameters → Type 0 = λ p. p.k ≤ 127 in
    between_of n outs s representation
    (subst Few (sym (step_preserves_parameters Tagged input (end_of m) s done)) between.few)
    (sound_step Tagged input (end_of m) s between.few (is_sound m between) done)
    numbers
    (step_is_short Tagged input (end_of m) s (are_short m.queue.messages between.short) done)

-- ---- A step, refused or not.

pub step_done : (input : Input) (e : End) → None ≡ refused input e
    → step Tagged input e ≡ Ok (end_step Tagged (row Tagged e.state input (begin e)))
unfolding step
step_done input e q = rw (sym q) refl

pub step_refused : (input : Input) (e : End) (fault : LinkFault) → Some fault ≡ refused input e
    → step Tagged input e ≡ Err fault
unfolding step
step_refused input e fault q = rw (sym q) refl

not_too_long : (long : Bool) (refusal : Option LinkFault)
    → (if long then Some TooLong else refusal) ≡ None → refusal ≡ None
not_too_long true refusal h = cc
not_too_long false refusal h = h

queued_in : (state : State) (release_pending layer3_initiated full : Bool) (message : List ℕ)
    (s : StepState) → give_refused state release_pending layer3_initiated full ≡ None
    → row Tagged state (Give message) s ≡ queue_up message s
unfolding row by_state awaiting_establishment multiple_frame_established timer_recovery in_7_and_8
queued_in TeiAssigned release_pending layer3_initiated full message s h = cc
queued_in AwaitingEstablishment release_pending layer3_initiated full message s h = refl
queued_in AwaitingRelease release_pending layer3_initiated full message s h = cc
queued_in MultipleFrameEstablished release_pending layer3_initiated full message s h = refl
queued_in TimerRecovery release_pending layer3_initiated full message s h = refl

-- a message that is not refused joins the queue
pub is_queued : (message : List ℕ) (e : End) (s : StepState) → refused (Give message) e ≡ None
    → row Tagged e.state (Give message) s ≡ queue_up message s
is_queued message e s h =
    queued_in e.state e.release_pending e.layer3_initiated _ message s (not_too_long _ _ h)

-- a message is refused because of room only if the queue is full
pub not_full : (full : Bool) (refusal : Option LinkFault) → refusal ≡ refused_when_full full
    → full ≡ false → refusal ≡ None
not_full full refusal q h = q ∙ rw h refl

pub is_full : (full : Bool) (refusal : Option LinkFault) → refusal ≡ refused_when_full full
    → full ≡ true → Some QueueFull ≡ refusal
is_full full refusal q h = sym (q ∙ rw h refl)

-- a message joins the queue, and then the step ends
pub queued_and_closed : (n : Machine) (outs : List Out) (message : List ℕ) (e : End)
    → refused (Give message) e ≡ None
    → Represents n outs (end_step Tagged (queue_up message (begin e)))
    → Represents n outs (end_step Tagged (row Tagged e.state (Give message) (begin e)))
queued_and_closed n outs message e none h =
    let F : StepState → Type 0 = λ s. Represents n outs (end_step Tagged s) in
    subst F (sym (is_queued message e (begin e) none)) h
