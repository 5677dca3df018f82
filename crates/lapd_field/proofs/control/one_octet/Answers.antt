use Rattle.std.proofs.Common.{rules}
use Rattle.lapd_field.proofs.control.one_octet.Goals as goal

pub returns : goal.returns
returns c = search rules
