use Rattle.std.proofs.Common.{rules}
use Rattle.lapd_link_machine.proofs.machine.refusals.give_refused.Goals as goal

pub returns-then-layer3_initiated : goal.returns-then-layer3_initiated
returns-then-layer3_initiated c = search rules
