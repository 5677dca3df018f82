use Rattle.std.proofs.Common.{refl, sym, ap, ◌∙◌}
use Rattle.lapd_supervision.specs.StateVariables.{without_ack_pending, acknowledgement}
use Rattle.lapd_link_definition.specs.Procedures.{transmit_rr}
use Rattle.lapd_link_machine.proofs.Predicted.{ends_with_rr, ends_at_once, none_behind, same_outs}
use Rattle.lapd_link_machine.proofs.machine.Machine.end_returning.Goals as goal

pub returns-then-ack_pending : goal.returns-then-ack_pending
unfolding transmit_rr
returns-then-ack_pending c = record {
  step = λ s outs h.
      let pending = sym c.ack_pending.ensures ∙ c.if-ack_pending.true in
      rw (ends_with_rr c.args.self.now outs s c.requires.idle h pending) (record {
        parameters = h.parameters;
        state = h.state;
        rc = h.rc;
        window = ap without_ack_pending h.window ∙ sym c.acknowledge_response-window.ensures.window;
        layer3_initiated = h.layer3_initiated;
        release_pending = h.release_pending;
        t200 = h.t200;
        t203 = h.t203;
        queue = h.queue;
        room = h.room;
        put =
            rw (h.put, ap acknowledgement h.window, c.acknowledge_response-window.ensures.response)
            refl;
      });
}

pub returns-else-ack_pending : goal.returns-else-ack_pending
returns-else-ack_pending c = record {
  step = λ s outs h.
      let pending = sym c.ack_pending.ensures ∙ c.if-ack_pending.false in
      rw (ends_at_once c.args.self.now outs s c.requires.idle h pending)
      (same_outs _ _ _ _ (none_behind outs) h);
}
