use Rattle.lapd_link_machine.proofs.Rows.{then_row, else_row, is_below, is_not_below, n200_of}
use Rattle.lapd_link_definition.specs.AwaitingRelease.{awaiting_release_t200}
use Rattle.lapd_link_machine.proofs.machine.Machine.awaiting_release_t200.Goals as goal

pub returns-then-self-n200-clause-step : goal.returns-then-self-n200-clause-step
unfolding awaiting_release_t200
returns-then-self-n200-clause-step c =
    λ s h. then_row _ _ _ _ _
    (is_below _ _ _ _ h.rc (n200_of _ _ _ h.parameters c.n200.ensures.same) c.if-self-n200.true)
    (c.start_t200.ensures.step _ (c.put.ensures.step _
    (c.expired_t200.ensures.step _ _ (c.increment_rc.ensures.step _ _ h))))

pub returns-else-self-n200-clause-step : goal.returns-else-self-n200-clause-step
unfolding awaiting_release_t200
returns-else-self-n200-clause-step c =
    λ s h. else_row _ _ _ _ _ (is_not_below _ _ _ _ h.rc
    (n200_of _ _ _ h.parameters c.n200.ensures.same) c.if-self-n200.false)
    (c.state_to.ensures.step _ _ (c.put-else-self-n200-2.ensures.step _
    (c.put-else-self-n200.ensures.step _
    (c.expired_t200-else-self-n200.ensures.step _ _ h))))
