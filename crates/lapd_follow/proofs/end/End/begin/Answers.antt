use Rattle.std.proofs.Common.{rules}
use Rattle.lapd_follow.specs.Ends.{begun}
use Rattle.lapd_follow.proofs.end.End.begin.Goals as goal

pub returns : goal.returns
unfolding begun
returns c = search rules
