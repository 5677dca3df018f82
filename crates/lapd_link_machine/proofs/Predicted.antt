-- A predicted step: nothing is unsent, so its end sends at most the pending acknowledgement.
use Rattle.std.proofs.Common.{◌≡◌, ◌-◌, ◌≤◌, ◌+◌, ◌++◌, ◌==◌, ℕ, nat_lt, Bool, true, false, ◌&&◌, not, if◌then◌else◌, List, [], length, Option, Some, None, IfSome, IfNone, refl, sym, ap, ◌∙◌, append_assoc, append-nil, arith}
use Rattle.std.proofs.lemmas.Bool.Decides.{nat_tests}
use Rattle.lapd_frame.specs.declared.Role.{Role}
use Rattle.lapd_frame.specs.declared.Control.{Control}
use Rattle.lapd_frame.specs.declared.Control.TheVariants.{Rej}
use Rattle.lapd_mod128.specs.Counting.{Tagged}
use Rattle.lapd_supervision.specs.StateVariables.{StateVariables, AreTags, is_accepted, is_rejected, i_frame_response, poll_response, may_send, outstanding}
use Rattle.lapd_link_definition.specs.declared.state.State.{State}
use Rattle.lapd_link_definition.specs.declared.state.State.TheVariants.{MultipleFrameEstablished}
use Rattle.lapd_link_definition.specs.declared.out.Out.{Out}
use Rattle.lapd_link_definition.specs.End.{End, StepState, begin, unsent}
use Rattle.lapd_link_definition.specs.EndOfStep.{may_send_next, is_established, acknowledge_pending, end_step}
use Rattle.lapd_link_definition.specs.Established.{multiple_frame_established}
use Rattle.lapd_link_definition.specs.Input.{Heard}
use Rattle.lapd_link_definition.specs.Procedures.{transmit_rr}
use Rattle.lapd_link_definition.specs.Table.{row, by_state, is_unit_data}
use Rattle.lapd_link_definition.proofs.Sending.{sends_none}
use Rattle.lapd_link_machine.specs.declared.machine.Machine.{Machine}
use Rattle.lapd_link_machine.specs.Represents.{Represents}
use Rattle.lapd_link_machine.specs.Sent.{SentAreOutstanding, IsBetweenSteps, sent_in_state}
use Rattle.lapd_link_machine.specs.declared.machine.predicted.PredictedOuts.{PredictedOuts}
use Rattle.lapd_link_machine.specs.Predicted.{is_idle, is_idle_machine, is_predicted, is_predicted_frame, IsIdle, predicted_outs}
use Rattle.lapd_link_machine.proofs.BetweenSteps.{end_of, shows_end, stays_between, step_done}
use Rattle.lapd_link_machine.proofs.Tails.{tail_waiting}

pub neither : (a b : Bool) → (a && (b && false)) ≡ false
neither true true = refl
neither true false = refl
neither false b = refl

-- a conjunction with a false part
pub second_is_false : (a b : Bool) → b ≡ false → (a && b) ≡ false
second_is_false true b h = h
second_is_false false b h = refl

pub third_is_false : (a b c : Bool) → c ≡ false → (a && (b && c)) ≡ false
third_is_false a b c h = second_is_false a (b && c) (second_is_false b c h)

all_sent : (next first given sent waiting : ℕ) → next ≡ first + sent → first ≤ given
    → given - first ≡ waiting → sent ≡ waiting → nat_lt next given ≡ false
all_sent next first given sent waiting n within w same = grind (arith, nat_tests)

-- no message is sent at the end of the step
pub sends_nothing : (m : Machine) (outs : List Out) (s : StepState) → IsIdle m → Represents m outs s
    → may_send_next Tagged s ≡ false
sends_nothing m outs s idle h =
    let sent =
    all_sent s.end.next s.end.first (length s.end.given) m.queue.sent
    (length m.queue.messages) h.queue.next_is h.queue.within (tail_waiting _ _ _ _ h.queue)
    idle.sent in
    rw sent (neither (is_established s.end.state) (may_send Tagged s.end.parameters.k s.end.window))

pending_of : (s : StepState) (m : Machine) (outs : List Out) → Represents m outs s
    → s.end.window.ack_pending ≡ m.window.ack_pending
pending_of s m outs h =
    let pending : StateVariables → Bool = λ v. v.ack_pending in ap pending h.window

pub ends_with_rr : (m : Machine) (outs : List Out) (s : StepState) → IsIdle m → Represents m outs s
    → m.window.ack_pending ≡ true → end_step Tagged s ≡ transmit_rr s
unfolding end_step acknowledge_pending
ends_with_rr m outs s idle h pending =
    rw (
      sends_none Tagged (unsent s.end) s (sends_nothing m outs s idle h),
      h.state ∙ idle.state,
      pending_of s m outs h ∙ pending,
    ) refl

pub ends_at_once : (m : Machine) (outs : List Out) (s : StepState) → IsIdle m → Represents m outs s
    → m.window.ack_pending ≡ false → end_step Tagged s ≡ s
unfolding end_step acknowledge_pending
ends_at_once m outs s idle h pending =
    rw (
      sends_none Tagged (unsent s.end) s (sends_nothing m outs s idle h),
      h.state ∙ idle.state,
      pending_of s m outs h ∙ pending,
    ) refl

-- as many messages are sent as I frames are outstanding
in_7 : (state : State) (initiated pending : Bool) (v : StateVariables)
    → state ≡ MultipleFrameEstablished
    → sent_in_state state initiated pending v ≡ outstanding Tagged v
in_7 state initiated pending v h = rw h refl

pub counted_when_idle : (m : Machine) → IsBetweenSteps m → IsIdle m → SentAreOutstanding m
counted_when_idle m between idle =
    between.sent ∙ in_7 m.state m.layer3_initiated m.release_pending m.window idle.state

-- the row of a frame in state 7
pub row_when_idle : (m : Machine) (control : Control) (role : Role) (e : End) → IsIdle m
    → Represents m [] (begin e) → is_unit_data control role ≡ false
    → row Tagged e.state (Heard control role) (begin e)
    ≡ multiple_frame_established Tagged (Heard control role) (begin e)
unfolding row by_state begin
row_when_idle m control role e idle h other = rw (other, h.state ∙ idle.state) refl

-- the outputs in one list
pub three_behind : (outs a b c : List Out) → ((outs ++ a) ++ b) ++ c ≡ outs ++ ((a ++ b) ++ c)
three_behind outs a b c =
    append_assoc (outs ++ a) b c ∙ append_assoc outs a (b ++ c)
    ∙ ap (λ (l : List Out). outs ++ l) (sym (append_assoc a b c))

pub two_behind : (outs a b : List Out) → (outs ++ a) ++ b ≡ outs ++ (a ++ b)
two_behind outs a b = append_assoc outs a b

pub same_outs : (m : Machine) (o p : List Out) (s : StepState) → o ≡ p → Represents m o s
    → Represents m p s
same_outs m o p s same h = rw (sym same) h

pub none_behind : (outs : List Out) → outs ≡ outs ++ []
none_behind outs = sym (append-nil outs)

-- the end of a step whose row has a test
pub then_ends : (m : Machine) (outs : List Out) (test : Bool) (x y : StepState) → test ≡ true
    → Represents m outs (end_step Tagged x)
    → Represents m outs (end_step Tagged (if test then x else y))
then_ends m outs true x y q h = h
then_ends m outs false x y q h = cc

pub else_ends : (m : Machine) (outs : List Out) (test : Bool) (x y : StepState) → test ≡ false
    → Represents m outs (end_step Tagged y)
    → Represents m outs (end_step Tagged (if test then x else y))
else_ends m outs true x y q h = cc
else_ends m outs false x y q h = h

pub if_none : {X : Type 0} (o : Option X) (P Q : Type 0) → (P → Q) → IfNone o P → IfNone o Q
if_none None P Q f h = f h
if_none (Some x) P Q f h = h

pub if_some : {X : Type 0} (o : Option X) (P Q : X → Type 0) → ((x : X) → P x → Q x) → IfSome o P
    → IfSome o Q
if_some None P Q f h = h
if_some (Some x) P Q f h = f x h

-- an accepted frame without a poll is not answered
pub accepted_is_not_answered : (ns : ℕ) (v : StateVariables) → is_accepted ns v ≡ true
    → i_frame_response Tagged ns false v ≡ None
unfolding is_accepted i_frame_response is_rejected poll_response
accepted_is_not_answered ns v h = by v.own_busy (ns == v.vr) v.rejecting h
  where
    by : (busy next rejecting : Bool) → (not busy && next) ≡ true
        → (if not busy && not next && not rejecting then Some (Rej v.vr false) else None) ≡ None
    by true next rejecting h = cc
    by false true rejecting h = refl
    by false false rejecting h = cc

-- ---- The steps that are not predicted.

unsent_left : (next first given sent waiting : ℕ) → next ≡ first + sent → first ≤ given
    → given - first ≡ waiting → sent ≤ waiting → (sent == waiting) ≡ false
    → nat_lt next given ≡ true
unsent_left next first given sent waiting n within w most differ = grind (arith, nat_tests)

neither_idle : (a b c : Bool) → (a && b) ≡ false → (b ≡ false → c ≡ false) → (a && c) ≡ false
neither_idle true true c h f = cc
neither_idle true false c h f = f refl
neither_idle false b c h f = refl

-- an end is not idle if its machine is not
pub idle_only_if : (m : Machine) (e : End) → m.queue.sent ≤ length m.queue.messages
    → Represents m [] (begin e) → is_idle_machine m ≡ false → is_idle e ≡ false
unfolding begin
idle_only_if m e most h busy =
    rw h.state (neither_idle (is_established m.state) (m.queue.sent == length m.queue.messages)
    (not (nat_lt e.next (length e.given))) busy
    (λ differ. rw (unsent_left e.next e.first (length e.given) m.queue.sent
    (length m.queue.messages) h.queue.next_is h.queue.within
    (tail_waiting _ _ _ _ h.queue) most differ) refl))

-- a frame that is not predicted for the machine's variables
pub not_predicted : (o : Option PredictedOuts) (control : Control) (role : Role) (m : Machine)
    → IfNone o (is_predicted_frame control role m.window ≡ false)
    → IfNone o ((e : End) → Represents m [] (begin e) → is_predicted control role e ≡ false)
unfolding begin
not_predicted o control role m =
    if_none o _ _ (λ no_frame e
    h. second_is_false (is_idle e) _ (ap (is_predicted_frame control role) h.window ∙ no_frame))

-- a machine stays between two steps
pub stays_between_when_predicted : (o : Option PredictedOuts) (control : Control) (role : Role)
    (m n : Machine) → IsBetweenSteps m
    → IfSome o (λ outs. (e : End) → Represents m [] (begin e) → Represents n
    (predicted_outs outs)
    (end_step Tagged (row Tagged e.state (Heard control role) (begin e))))
    → IfNone o (n ≡ m) → AreTags n.window → IsBetweenSteps n
stays_between_when_predicted None control role m n between step same numbers = rw same between
stays_between_when_predicted (Some outs) control role m n between step same numbers =
    stays_between (Heard control role) m n _ _ between
    (step_done (Heard control role) (end_of m) refl) (step (end_of m) (shows_end m between))
    numbers

-- the step of a frame, from its row of state 7
pub predicted_of_row : (o : Option PredictedOuts) (control : Control) (role : Role) (m n : Machine)
    → IsIdle m → is_unit_data control role ≡ false
    → IfSome o (λ outs. (s : StepState) → Represents m [] s → Represents n
    (predicted_outs outs)
    (end_step Tagged (multiple_frame_established Tagged (Heard control role) s)))
    → IfSome o (λ outs. (e : End) → Represents m [] (begin e) → Represents n
    (predicted_outs outs)
    (end_step Tagged (row Tagged e.state (Heard control role) (begin e))))
predicted_of_row o control role m n idle other =
    if_some o _ _
    (λ outs step e h. rw (row_when_idle m control role e idle h other) (step (begin e) h))
