use Rattle.std.proofs.Common.{rules}
use Rattle.lapd_field.proofs.address.role_of.Goals as goal

pub returns-in-Network-true-2 : goal.returns-in-Network-true-2
returns-in-Network-true-2 c = search rules
