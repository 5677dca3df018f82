use Rattle.std.proofs.Common.{rules}
use Rattle.lapd_mod128.specs.Counting.{after}
use Rattle.lapd_mod128.proofs.seq.Seq.next.Goals as goal

pub returns-clause-one_on : goal.returns-clause-one_on
unfolding after
returns-clause-one_on c = search rules
