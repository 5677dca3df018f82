use Rattle.std.proofs.Common.{rules}
use Rattle.lapd_tei.proofs.terminal.assigned_receives.Goals as goal

pub returns-in-Assigned-clause-now : goal.returns-in-Assigned-clause-now
returns-in-Assigned-clause-now c = search rules
