use Rattle.std.proofs.Common.{rules}
use Rattle.lapd_link_definition.specs.End.{begin}
use Rattle.lapd_link_machine.proofs.machine.Machine.refuses.Goals as goal

pub returns-in-Unit : goal.returns-in-Unit
unfolding begin
returns-in-Unit c = search rules
