use Rattle.std.proofs.Common.{rules}
use Rattle.lapd_link_machine.proofs.machine.Machine.sends_last.Goals as goal

pub returns-then-ready-clause-exact : goal.returns-then-ready-clause-exact
returns-then-ready-clause-exact c = search rules

pub returns-else-ready-clause-exact : goal.returns-else-ready-clause-exact
returns-else-ready-clause-exact c = search rules
