use Rattle.std.proofs.Common.{rules}
use Rattle.lapd_queue.specs.Waiting.{with_room}
use Rattle.lapd_queue.proofs.queue.IQueue.new.Goals as goal

pub returns : goal.returns
unfolding with_room
returns c = search rules
