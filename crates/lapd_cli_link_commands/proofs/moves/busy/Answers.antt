use Rattle.std.proofs.Common.{arith}
use Rattle.std.proofs.lemmas.Grind.{common_steps}
use Rattle.lapd_cli_link_commands.proofs.moves.busy.Goals as goal

pub returns-in-Some-off : goal.returns-in-Some-off
returns-in-Some-off c = grind (arith, common_steps)
