use Rattle.std.proofs.Common.{arith}
use Rattle.lapd_queue.proofs.Messages.{messages}
use Rattle.lapd_queue.proofs.queue.IQueue.get.Goals as goal

pub returns : goal.returns
returns c = grind (arith, messages)
