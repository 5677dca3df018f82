use Rattle.std.proofs.Common.{rules}
use Rattle.lapd_c.proofs.making.make_user.Goals as goal

pub returns : goal.returns
returns c = search rules
