use Rattle.std.proofs.Common.{rules}
use Rattle.lapd_queue.specs.Waiting.{all_unsent}
use Rattle.lapd_queue.proofs.queue.IQueue.go_back.Goals as goal

pub returns : goal.returns
unfolding all_unsent
returns c = search rules
