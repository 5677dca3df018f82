use Rattle.std.proofs.Common.{arith}
use Rattle.lapd_queue.proofs.Messages.{messages}
use Rattle.lapd_queue.specs.Waiting.{with_message}
use Rattle.lapd_queue.proofs.queue.IQueue.put.Goals as goal

pub returns-clause-full : goal.returns-clause-full
returns-clause-full c = grind (arith, messages)

pub returns-clause-ok : goal.returns-clause-ok
unfolding with_message
returns-clause-ok c = grind (arith, messages)
