use Rattle.lapd_link_definition.specs.Procedures.{queue_up}
use Rattle.lapd_link_machine.proofs.Tails.{on_ok, tail_given}
use Rattle.lapd_link_machine.proofs.machine.Machine.queue_up.Goals as goal
use Rattle.lapd_queue.specs.Waiting.{with_message}

pub returns-clause-ok : goal.returns-clause-ok
unfolding queue_up with_message
returns-clause-ok c = on_ok c.put.result _ _ c.put.ensures.ok (λ is s outs h. record {
  parameters = h.parameters;
  state = h.state;
  rc = h.rc;
  window = h.window;
  layer3_initiated = h.layer3_initiated;
  release_pending = h.release_pending;
  t200 = h.t200;
  t203 = h.t203;
  queue = rw is (tail_given _ _ _ _ c.args.message.items h.queue);
  room = rw is h.room;
  put = h.put;
})
