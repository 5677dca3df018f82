use Rattle.std.proofs.Common.{rules}
use Rattle.lapd_queue.specs.Waiting.{with_room}
use Rattle.lapd_link_definition.specs.End.{begin}
use Rattle.lapd_link_machine.proofs.machine.Machine.new.Goals as goal

pub returns-clause-end : goal.returns-clause-end
unfolding begin with_room
returns-clause-end c = search rules
