use Rattle.std.proofs.Common.{rules}
use Rattle.lapd_c.proofs.lapd_side_take.Goals as goal

pub returns : goal.returns
returns c = search rules
