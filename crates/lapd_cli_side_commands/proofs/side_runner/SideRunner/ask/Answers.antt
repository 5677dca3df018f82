use Rattle.std.proofs.Common.{rules}
use Rattle.lapd_cli_side_commands.proofs.side_runner.SideRunner.ask.Goals as goal

pub returns-in_ok-gather-in-Ok-clause-does : goal.returns-in_ok-gather-in-Ok-clause-does
returns-in_ok-gather-in-Ok-clause-does g c = search rules
