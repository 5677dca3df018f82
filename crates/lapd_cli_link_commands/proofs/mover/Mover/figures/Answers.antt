use Rattle.std.proofs.Common.{arith}
use Rattle.std.proofs.lemmas.Grind.{common_steps}
use Rattle.lapd_cli_link_commands.proofs.mover.Mover.figures.Goals as goal

pub returns : goal.returns
returns c = grind (arith, common_steps)
