use Rattle.std.proofs.Common.{◌≡◌, drop}
use Rattle.lapd_queue.proofs.queue.IQueue.acknowledge.Given as goal

abbrev pub invariant-loop : goal.invariant-loop
invariant-loop l = record {
  messages : l.self-inside.messages.items ≡ drop l.counter l.initial.self-inside.messages.items;
  sent : l.self-inside.sent ≡ l.initial.self-inside.sent;
  room : l.self-inside.messages.capacity ≡ l.initial.self-inside.messages.capacity;
}
