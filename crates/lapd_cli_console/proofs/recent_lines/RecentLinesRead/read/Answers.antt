use Rattle.std.proofs.Common.{rules}
use Rattle.lapd_cli_console.proofs.recent_lines.RecentLinesRead.read.Goals as goal

pub returns-then-ne-clause-fault : goal.returns-then-ne-clause-fault
returns-then-ne-clause-fault g c = search rules
