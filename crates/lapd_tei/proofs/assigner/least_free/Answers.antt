use Rattle.std.proofs.Common.{rules}
use Rattle.lapd_tei.proofs.Holding.{passed_over}
use Rattle.lapd_tei.proofs.assigner.least_free.Goals as goal

pub loop-tei-preserved : goal.loop-tei-preserved
loop-tei-preserved c = search (rules, passed_over)
