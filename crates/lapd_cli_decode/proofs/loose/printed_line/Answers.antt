use Rattle.std.proofs.Common.{arith}
use Rattle.std.proofs.lemmas.Grind.{common_steps}
use Rattle.lapd_cli_decode.proofs.loose.printed_line.Goals as goal

pub returns-in-60 : goal.returns-in-60
returns-in-60 c = grind (arith, common_steps)
