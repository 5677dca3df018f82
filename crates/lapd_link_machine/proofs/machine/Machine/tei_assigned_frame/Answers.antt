use Rattle.lapd_link_definition.specs.TeiAssigned.{tei_assigned}
use Rattle.lapd_link_machine.proofs.machine.Machine.tei_assigned_frame.Goals as goal

pub returns-in-Sabme-Command-clause-step : goal.returns-in-Sabme-Command-clause-step
unfolding tei_assigned
returns-in-Sabme-Command-clause-step c =
    λ s h. rw (c.in-Sabme-Command.is-0, c.in-Sabme-Command.is-1)
    (c.state_to.ensures.step _ _ (c.start_t203.ensures.step _
    (c.put-in-Sabme-Command.ensures.step _
    (c.zero_state_variables.ensures.step _ _
    (c.clear_exception_conditions.ensures.step _ _ (c.put.ensures.step _ h))))))
