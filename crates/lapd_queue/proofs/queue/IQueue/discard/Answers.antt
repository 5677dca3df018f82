use Rattle.std.proofs.Common.{rules}
use Rattle.lapd_queue.proofs.queue.IQueue.discard.Goals as goal

pub returns-clause-dropped : goal.returns-clause-dropped
returns-clause-dropped c = search rules
