use Rattle.std.proofs.Common.{sym, ◌∙◌, rules}
use Rattle.lapd_cli_side_commands.proofs.side_runner.SideRunner.tick.Goals as goal

pub returns-in-None-clause-clock : goal.returns-in-None-clause-clock
returns-in-None-clause-clock g c = sym c.moment_behind.ensures ∙ c.in-None.is

pub returns-in-Some-clause-does : goal.returns-in-Some-clause-does
returns-in-Some-clause-does g c = search rules
