use Rattle.std.proofs.Common.{rules}
use Rattle.lapd_field.proofs.control.Control.poll_final.Goals as goal

pub returns-in-I : goal.returns-in-I
returns-in-I c = search rules
