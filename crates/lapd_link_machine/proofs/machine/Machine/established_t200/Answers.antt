use Rattle.std.proofs.Common.{sym, ◌∙◌}
use Rattle.lapd_link_definition.specs.Established.{established_t200}
use Rattle.lapd_link_machine.proofs.Rows.{then_row, else_row, sends_last_of}
use Rattle.lapd_link_machine.proofs.machine.Machine.established_t200.Goals as goal

pub returns-then-sends_last-clause-step : goal.returns-then-sends_last-clause-step
unfolding established_t200
returns-then-sends_last-clause-step c =
    λ s h. then_row _ _ _ _ _ (sends_last_of _ _ _ _ _ h.parameters h.window
    (sym c.sends_last.ensures.exact ∙ c.if-sends_last.true))
    (c.state_to.ensures.step _ _ (c.rc_to.ensures.step _ _
    (c.retransmit_last_i_frame.ensures.step _ (c.expired_t200.ensures.step _ _ h))))

pub returns-else-sends_last-clause-step : goal.returns-else-sends_last-clause-step
unfolding established_t200
returns-else-sends_last-clause-step c =
    λ s h. else_row _ _ _ _ _ (sends_last_of _ _ _ _ _ h.parameters h.window
    (sym c.sends_last.ensures.exact ∙ c.if-sends_last.false))
    (c.state_to-else-sends_last.ensures.step _ _
    (c.rc_to-else-sends_last.ensures.step _ _
    (c.transmit_enquiry.ensures.step _
    (c.expired_t200-else-sends_last.ensures.step _ _ h))))
