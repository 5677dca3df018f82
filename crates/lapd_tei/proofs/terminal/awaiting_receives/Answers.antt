use Rattle.std.proofs.Common.{rules}
use Rattle.lapd_tei.proofs.terminal.awaiting_receives.Goals as goal

pub returns-in-Assigned-Some-clause-now : goal.returns-in-Assigned-Some-clause-now
returns-in-Assigned-Some-clause-now c = search rules
