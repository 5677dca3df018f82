use Rattle.std.proofs.Common.{rules}
use Rattle.lapd_tei.proofs.message.TeiMessage.write.Goals as goal

pub returns : goal.returns
returns c = search rules
