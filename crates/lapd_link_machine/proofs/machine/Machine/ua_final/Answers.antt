use Rattle.lapd_link_machine.proofs.Rows.{then_row, else_row}
use Rattle.lapd_link_definition.specs.AwaitingEstablishment.{ua_final}
use Rattle.std.proofs.Common.{◌∙◌}
use Rattle.lapd_link_machine.proofs.machine.Machine.ua_final.Goals as goal

pub returns-then-self-clause-step : goal.returns-then-self-clause-step
unfolding ua_final
returns-then-self-clause-step c =
    λ s h. then_row _ _ _ _ _ (h.release_pending ∙ c.if-self.true)
    (c.state_to.ensures.step _ _ (c.start_t200.ensures.step _
    (c.put.ensures.step _
    (c.rc_to.ensures.step _ _ (c.release_pending_to.ensures.step _ _ h)))))

pub returns-else-self-clause-step : goal.returns-else-self-clause-step
unfolding ua_final
returns-else-self-clause-step c =
    λ s h. else_row _ _ _ _ _ (h.release_pending ∙ c.if-self.false)
    (c.state_to-else-self.ensures.step _ _
    (c.start_t203.ensures.step _ (c.stop_t200.ensures.step _
    (c.zero_state_variables.ensures.step _ _
    (c.confirm_or_indicate.ensures.step _ h)))))
