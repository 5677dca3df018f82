use Rattle.std.proofs.Common.{◌≡◌, true, false, sym, ap, ◌∙◌}
use Rattle.lapd_mod128.specs.Counting.{Tagged}
use Rattle.lapd_supervision.specs.StateVariables.{with_peer_busy, is_valid_nr, outstanding}
use Rattle.lapd_supervision.proofs.Outstanding.{outstanding_with_peer_busy}
use Rattle.lapd_link_definition.specs.Procedures.{set_peer_busy}
use Rattle.lapd_link_definition.specs.Established.{multiple_frame_established, rr_nr, poll_or_final}
use Rattle.lapd_link_machine.proofs.Predicted.{then_ends, if_none, if_some}
use Rattle.lapd_link_machine.proofs.machine.Machine.predicted_response.Goals as goal

pub acknowledge_and_end-requires-clause-counted : goal.acknowledge_and_end-requires-clause-counted
acknowledge_and_end-requires-clause-counted c =
    c.requires.counted
    ∙ sym (ap (outstanding Tagged) c.peer-window.ensures
    ∙ outstanding_with_peer_busy Tagged false c.args.self.now.window)

pub returns-clause-step : goal.returns-clause-step
unfolding multiple_frame_established rr_nr poll_or_final set_peer_busy
returns-clause-step c = if_some c.acknowledge_and_end.result _ _ (λ outs step s h.
    let window : with_peer_busy false s.end.window ≡ c.peer-window.result =
    ap (with_peer_busy false) h.window ∙ sym c.peer-window.ensures in
    let valid : is_valid_nr Tagged c.args.nr (with_peer_busy false s.end.window) ≡ true =
    ap (is_valid_nr Tagged c.args.nr) window ∙ step.0 in
    then_ends _ _ _ _ _ valid (step.1 _ (record {
      parameters = h.parameters;
      state = h.state;
      rc = h.rc;
      window = window;
      layer3_initiated = h.layer3_initiated;
      release_pending = h.release_pending;
      t200 = h.t200;
      t203 = h.t203;
      queue = h.queue;
      room = h.room;
      put = h.put;
    }))) c.acknowledge_and_end.ensures.step

pub returns-clause-declined : goal.returns-clause-declined
unfolding is_valid_nr with_peer_busy
returns-clause-declined c = if_none c.acknowledge_and_end.result _ _
    (λ invalid. ap (is_valid_nr Tagged c.args.nr) (sym c.peer-window.ensures) ∙ invalid)
    c.acknowledge_and_end.ensures.declined
