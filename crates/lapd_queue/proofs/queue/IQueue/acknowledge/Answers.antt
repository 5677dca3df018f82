use Rattle.std.proofs.Common.{drop, ap, ◌∙◌}
use Rattle.std.proofs.lemmas.List.{drop-drop}
use Rattle.lapd_queue.proofs.queue.IQueue.acknowledge.Goals as goal

pub loop-preserved : goal.loop-preserved
loop-preserved c = record {
  messages =
      ap (λ ring. ring.items) c.pop_first.ensures.items
      ∙ ap (λ rest. drop 1 rest) c.loop.invariant.messages
      ∙ drop-drop 1 c.loop.counter c.self.inside.messages.items;
  sent = c.loop.invariant.sent;
  room = ap (λ ring. ring.capacity) c.pop_first.ensures.items ∙ c.loop.invariant.room;
}
