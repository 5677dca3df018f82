use Rattle.std.proofs.Common.{rules}
use Rattle.lapd_tei.proofs.broadcast.Broadcast.mark.Goals as goal

pub returns-then-t-len : goal.returns-then-t-len
returns-then-t-len c = search rules
