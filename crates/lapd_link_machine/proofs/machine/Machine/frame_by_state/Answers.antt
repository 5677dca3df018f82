use Rattle.lapd_link_definition.specs.Table.{by_state}
use Rattle.lapd_link_machine.proofs.machine.Machine.frame_by_state.Goals as goal

pub returns-in-AwaitingEstablishment-clause-step : goal.returns-in-AwaitingEstablishment-clause-step
unfolding by_state
returns-in-AwaitingEstablishment-clause-step c =
    λ s h. rw c.in-AwaitingEstablishment.is (c.awaiting_establishment_frame.ensures.step s h)

pub returns-in-AwaitingRelease-clause-step : goal.returns-in-AwaitingRelease-clause-step
unfolding by_state
returns-in-AwaitingRelease-clause-step c =
    λ s h. rw c.in-AwaitingRelease.is (c.awaiting_release_frame.ensures.step s h)

pub returns-in-TimerRecovery-clause-step : goal.returns-in-TimerRecovery-clause-step
unfolding by_state
returns-in-TimerRecovery-clause-step c =
    λ s h. rw c.in-TimerRecovery.is (c.timer_recovery_frame.ensures.step s h)
