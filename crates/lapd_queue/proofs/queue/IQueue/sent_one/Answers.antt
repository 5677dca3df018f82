use Rattle.std.proofs.Common.{rules}
use Rattle.lapd_queue.specs.Waiting.{one_more_sent}
use Rattle.lapd_queue.proofs.queue.IQueue.sent_one.Goals as goal

pub returns : goal.returns
unfolding one_more_sent
returns c = search rules
