use Rattle.lapd_link_definition.specs.Established.{multiple_frame_established}
use Rattle.lapd_link_machine.proofs.machine.Machine.established_frame.Goals as goal

pub returns-in-Rr-clause-step : goal.returns-in-Rr-clause-step
unfolding multiple_frame_established
returns-in-Rr-clause-step c =
    λ s h. rw c.in-Rr.is
    (c.rr_nr.ensures.step _ (c.poll_or_final.ensures.step _ (c.set_peer_busy.ensures.step _ _ h)))

pub returns-in-Rej-clause-step : goal.returns-in-Rej-clause-step
unfolding multiple_frame_established
returns-in-Rej-clause-step c =
    λ s h. rw c.in-Rej.is (c.rej_nr.ensures.step _
    (c.poll_or_final-in-Rej.ensures.step _ (c.set_peer_busy-in-Rej.ensures.step _ _ h)))

pub returns-in-Rnr-clause-step : goal.returns-in-Rnr-clause-step
unfolding multiple_frame_established
returns-in-Rnr-clause-step c =
    λ s h. rw c.in-Rnr.is (c.rnr_nr.ensures.step _
    (c.poll_or_final-in-Rnr.ensures.step _ (c.set_peer_busy-in-Rnr.ensures.step _ _ h)))
