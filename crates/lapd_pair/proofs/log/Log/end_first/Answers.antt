use Rattle.std.proofs.Common.{arith}
use Rattle.std.proofs.lemmas.Grind.{common_steps}
use Rattle.lapd_pair.proofs.log.Log.end_first.Goals as goal

pub returns-clause-fates : goal.returns-clause-fates
returns-clause-fates c = grind (arith, common_steps)
