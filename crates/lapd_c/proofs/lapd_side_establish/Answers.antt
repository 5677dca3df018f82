use Rattle.std.proofs.Common.{rules}
use Rattle.lapd_c.proofs.lapd_side_establish.Goals as goal

pub returns-in-Some : goal.returns-in-Some
returns-in-Some c = search rules
