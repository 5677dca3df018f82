use Rattle.std.proofs.Common.{rules}
use Rattle.lapd_mod128.proofs.seq.Seq.new.Goals as goal

pub invariant_of-result : goal.invariant_of-result
invariant_of-result c = search rules
