use Rattle.std.proofs.Common.{arith}
use Rattle.std.proofs.lemmas.Grind.{common_steps}
use Rattle.lapd_tei.proofs.Holding.{one_more_held}
use Rattle.lapd_tei.proofs.assigner.Assigner.new.Goals as goal

pub loop-tei-preserved : goal.loop-tei-preserved
loop-tei-preserved c = grind (arith, common_steps, one_more_held)
