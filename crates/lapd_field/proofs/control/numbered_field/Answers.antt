use Rattle.std.proofs.Common.{rules}
use Rattle.lapd_field.proofs.control.numbered_field.Goals as goal

pub returns-in-1 : goal.returns-in-1
returns-in-1 c = search rules
