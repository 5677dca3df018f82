use Rattle.std.proofs.Common.{rules}
use Rattle.lapd_mod128.specs.Counting.{steps, reaches, lies_within}
use Rattle.lapd_mod128.proofs.seq.Seq.within.Goals as goal

pub returns-clause-counted : goal.returns-clause-counted
unfolding steps reaches lies_within
returns-clause-counted c = search rules

pub returns-clause-compared : goal.returns-clause-compared
unfolding steps reaches lies_within
returns-clause-compared c = search rules
