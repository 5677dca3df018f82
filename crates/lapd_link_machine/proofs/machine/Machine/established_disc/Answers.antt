use Rattle.lapd_link_definition.specs.Established.{in_7_and_8}
use Rattle.lapd_link_machine.proofs.machine.Machine.established_disc.Goals as goal

pub returns-clause-step : goal.returns-clause-step
unfolding in_7_and_8
returns-clause-step c =
    λ s h. c.state_to.ensures.step _ _ (c.stop_t203.ensures.step _
    (c.stop_t200.ensures.step _
    (c.put-2.ensures.step _ (c.put.ensures.step _ (c.discard_i_queue.ensures.step _ h)))))
