use Rattle.std.proofs.Common.{rules}
use Rattle.lapd_c.proofs.flat_primitive.kind_of_link.Goals as goal

pub returns-in-Established : goal.returns-in-Established
returns-in-Established c = search rules
