use Rattle.std.proofs.Common.{rules}
use Rattle.lapd_link_definition.specs.Procedures.{discard_unacknowledged}
use Rattle.lapd_link_machine.proofs.machine.Machine.discard_unacknowledged.Goals as goal

pub returns-else-value-clause-step : goal.returns-else-value-clause-step
unfolding discard_unacknowledged
returns-else-value-clause-step c = search rules
