use Rattle.lapd_mod128.proofs.Steps.{fewer_is_counting}
use Rattle.lapd_mod128.proofs.laws.fewer_is_counting.Goals as goal

pub returns : goal.returns
returns c = fewer_is_counting
