use Rattle.std.proofs.Common.{◌≡◌, true, false, refl, sym, ap, ◌∙◌}
use Rattle.lapd_mod128.specs.Counting.{Tagged}
use Rattle.lapd_supervision.specs.StateVariables.{with_peer_busy, without_ack_pending, is_valid_nr, outstanding}
use Rattle.lapd_supervision.proofs.Outstanding.{outstanding_with_peer_busy, outstanding_without_ack_pending}
use Rattle.lapd_link_definition.specs.Procedures.{set_peer_busy, enquiry_response}
use Rattle.lapd_link_definition.specs.Established.{multiple_frame_established, rr_nr, poll_or_final}
use Rattle.lapd_link_machine.proofs.Predicted.{then_ends, if_none, if_some}
use Rattle.lapd_link_machine.proofs.machine.Machine.predicted_poll.Goals as goal

pub acknowledge_and_end-requires-clause-counted : goal.acknowledge_and_end-requires-clause-counted
acknowledge_and_end-requires-clause-counted c =
    c.requires.counted
    ∙ sym (ap (outstanding Tagged)
    (c.answer_poll_response-window.ensures.window ∙ ap without_ack_pending c.peer.ensures)
    ∙ outstanding_without_ack_pending Tagged (with_peer_busy false c.args.self.now.window)
    ∙ outstanding_with_peer_busy Tagged false c.args.self.now.window)

pub returns-clause-step : goal.returns-clause-step
unfolding multiple_frame_established rr_nr poll_or_final set_peer_busy enquiry_response
returns-clause-step c = if_some c.acknowledge_and_end.result _ _ (λ outs step s h.
    let peer : with_peer_busy false s.end.window ≡ c.peer.result =
    ap (with_peer_busy false) h.window ∙ sym c.peer.ensures in
    let window : without_ack_pending (with_peer_busy false s.end.window) ≡
    c.answer_poll_response-window.result.0 =
    ap without_ack_pending peer ∙ sym c.answer_poll_response-window.ensures.window in
    let valid : is_valid_nr Tagged c.args.nr
    (without_ack_pending (with_peer_busy false s.end.window)) ≡ true =
    ap (is_valid_nr Tagged c.args.nr) window ∙ step.0 in
    then_ends _ _ _ _ _ valid (step.1 _ (record {
      parameters = h.parameters;
      state = h.state;
      rc = h.rc;
      window = window;
      layer3_initiated = h.layer3_initiated;
      release_pending = h.release_pending;
      t200 = h.t200;
      t203 = h.t203;
      queue = h.queue;
      room = h.room;
      put = rw (h.put, peer, c.answer_poll_response-window.ensures.response) refl;
    }))) c.acknowledge_and_end.ensures.step

pub returns-clause-declined : goal.returns-clause-declined
unfolding is_valid_nr with_peer_busy without_ack_pending
returns-clause-declined c = if_none c.acknowledge_and_end.result _ _
    (λ invalid. ap (is_valid_nr Tagged c.args.nr)
    (sym (c.answer_poll_response-window.ensures.window
    ∙ ap without_ack_pending c.peer.ensures)) ∙ invalid)
    c.acknowledge_and_end.ensures.declined
