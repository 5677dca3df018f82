use Rattle.lapd_tei.proofs.RunPreserves.{law_of_teis}
use Rattle.lapd_tei.proofs.laws.terminals_are_single.Goals as goal

pub returns : goal.returns
returns c = law_of_teis
