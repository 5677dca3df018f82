use Rattle.std.proofs.Common.{rules}
use Rattle.lapd_mod128.specs.Counting.{steps, reaches}
use Rattle.lapd_mod128.proofs.seq.Seq.window_open.Goals as goal

pub returns-clause-counted : goal.returns-clause-counted
unfolding steps reaches
returns-clause-counted c = search rules

pub returns-clause-compared : goal.returns-clause-compared
unfolding steps reaches
returns-clause-compared c = search rules
