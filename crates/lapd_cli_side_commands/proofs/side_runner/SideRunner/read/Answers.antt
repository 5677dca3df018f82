use Rattle.std.proofs.Common.{rules}
use Rattle.lapd_cli_side_commands.proofs.side_runner.SideRunner.read.Goals as goal

pub returns-in-Ok-clause-does : goal.returns-in-Ok-clause-does
returns-in-Ok-clause-does g c = search rules
