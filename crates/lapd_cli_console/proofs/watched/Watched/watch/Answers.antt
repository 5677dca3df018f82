use Rattle.std.proofs.Common.{rules}
use Rattle.lapd_cli_console.proofs.watched.Watched.watch.Goals as goal

pub returns-after-ne-clause-fault : goal.returns-after-ne-clause-fault
returns-after-ne-clause-fault g c = search rules
