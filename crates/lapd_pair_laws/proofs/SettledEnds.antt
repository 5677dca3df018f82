-- After each step every message that may be sent has been sent; so too after each move of either
-- side, and after each run, with the timers.
use Rattle.std.proofs.Common.{◌≡◌, ℕ, zero, suc, ◌≤◌, ◌&&◌, nat_lt, Ok, Bool, true, false, List, length, subst, refl, arith}
use Rattle.std.proofs.lemmas.Bool.Decides.{nat_tests}
use Rattle.lapd_mod128.specs.Counting.{Whole}
use Rattle.lapd_supervision.specs.StateVariables.{may_send, without_ack_pending}
use Rattle.lapd_link_definition.specs.declared.state.State.TheVariants.{TeiAssigned}
use Rattle.lapd_link_definition.proofs.PreservedByStep.{step_preserves_parameters, taken}
use Rattle.lapd_link_definition.specs.EndOfStep.{is_7_or_8, is_established, send_next, send_all, acknowledge_pending, end_step, may_send_next}
use Rattle.lapd_link_definition.specs.End.{End, StepState, unsent, begin}
use Rattle.lapd_link_definition.specs.Input.{Input}
use Rattle.lapd_link_definition.specs.Parameters.{Parameters}
use Rattle.lapd_link_definition.specs.Procedures.{transmit_i_frame, ensure_t200, transmit_rr}
use Rattle.lapd_link_definition.specs.Refusal.{refused}
use Rattle.lapd_link_definition.specs.Table.{row, step}
use Rattle.lapd_link_definition.proofs.Sending.{both_true, below}
use Rattle.lapd_pair_laws.specs.Move.{Move, restarted}
use Rattle.lapd_pair_laws.specs.World.{World, world_after, happens, run, new_world}
use Rattle.lapd_pair_laws.proofs.EachMove.{AreBoth, kept_by_move, kept_by_run}
use Rattle.lapd_pair_laws.proofs.Lists.{by_test}
use Rattle.lapd_pair_laws.specs.Timed.{IsClosed, IsSettledEnd, AreSettledEnds}
use Rattle.lapd_pair_laws.proofs.Timers.{timed_step}

-- ---- The end of a step.

none_left : (s : StepState) → unsent s.end ≤ 0 → may_send_next Whole s ≡ false
none_left s none =
    by_state (is_established s.end.state) (may_send Whole s.end.parameters.k s.end.window)
  where
    no : nat_lt s.end.next (length s.end.given) ≡ false
    no = grind (arith, nat_tests, none)

    by_state : (a b : Bool) → (a && (b && nat_lt s.end.next (length s.end.given))) ≡ false
    by_state false b = refl
    by_state true false = refl
    by_state true true = no

sent_all : (n : ℕ) (s : StepState) → unsent s.end ≤ n
    → may_send_next Whole (send_all Whole n s) ≡ false
unfolding send_all transmit_i_frame ensure_t200
sent_all zero s few = none_left s few
sent_all (suc n) s few =
    by_test (λ (t : StepState). may_send_next Whole t ≡ false) (may_send_next Whole s) _ _
    (λ go. let one =
    both_true _ _ go in let two =
    both_true _ _ one.1 in let free =
    below s.end.next (length s.end.given) two.1 in sent_all n
    (send_next Whole s) (omega (arith, few, free)))
    (λ stop. stop)

closed_close : (s : StepState) → IsClosed (end_step Whole s).end
unfolding end_step acknowledge_pending transmit_rr without_ack_pending may_send begin
closed_close s =
    let all = send_all Whole (unsent s.end) s in
    let done : may_send_next Whole all ≡ false = sent_all (unsent s.end) s (omega arith) in
    by_test (λ (t : StepState). IsClosed t.end)
    (is_7_or_8 all.end.state && all.end.window.ack_pending) _ _
    (λ _. record { sent = done; acknowledged = λ opened. refl })
    (λ none. record {
      sent = done;
      acknowledged =
          λ opened. pending (is_7_or_8 all.end.state) all.end.window.ack_pending none opened;
    })
  where
    pending : (a b : Bool) → (a && b) ≡ false → a ≡ true → b ≡ false
    pending true b none is = none
    pending false b none is = cc

pub closed_step : (what : Input) (e : End) (s : StepState) → step Whole what e ≡ Ok s
    → IsClosed s.end
unfolding step begin
closed_step what e s done =
    let F : StepState → Type 0 = λ d. IsClosed d.end in
    subst F (taken (refused what e) _ s done).1 (closed_close (row Whole e.state what (begin e)))

-- ---- Moves and runs.

settled_step : (what : Input) (e : End) (s : StepState) → IsSettledEnd e → step Whole what e ≡ Ok s
    → IsSettledEnd s.end
settled_step what e s settled is = record {
  timed = timed_step what e s settled.timed is;
  closed = closed_step what e s is;
  some = rw (step_preserves_parameters Whole what e s is) settled.some;
}

new_is_settled : (e : End) → e.state ≡ TeiAssigned → 1 ≤ e.parameters.k → IsSettledEnd e
unfolding begin
new_is_settled e is some = record {
  timed = rw is tt;
  closed = record { sent = rw is refl; acknowledged = rw is (λ opened. cc) };
  some = some;
}

settled_again : (e : End) → IsSettledEnd e → IsSettledEnd (restarted e)
settled_again e settled = new_is_settled (restarted e) refl settled.some

both_settled : (w : World) → AreSettledEnds w → AreBoth IsSettledEnd w
both_settled w are = record { user = are.user; network = are.network }

pub move_settles : (move : Move) (w : World) → AreSettledEnds w
    → AreSettledEnds (world_after w (happens Whole move w))
move_settles move w are =
    let after = kept_by_move IsSettledEnd settled_step settled_again move w (both_settled w are) in
    record { user = after.user; network = after.network }

pub run_settles : (moves : List Move) (w : World) → AreSettledEnds w
    → AreSettledEnds (run Whole moves w)
run_settles moves w are =
    let after = kept_by_run IsSettledEnd settled_step settled_again moves w (both_settled w are) in
    record { user = after.user; network = after.network }

pub new_settles : (user network : Parameters) → 1 ≤ user.k → 1 ≤ network.k
    → AreSettledEnds (new_world user network)
new_settles user network u n =
    record { user = new_is_settled _ refl u; network = new_is_settled _ refl n }
