use Rattle.std.proofs.Common.{rules}
use Rattle.lapd_mod128.specs.Counting.{after, before}
use Rattle.lapd_mod128.proofs.seq.Seq.back.Goals as goal

pub returns-clause-one_back : goal.returns-clause-one_back
unfolding before
returns-clause-one_back c = search rules

pub returns-clause-undone : goal.returns-clause-undone
unfolding after
returns-clause-undone c = search rules
