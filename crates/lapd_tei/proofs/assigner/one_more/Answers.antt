use Rattle.std.proofs.Common.{rules}
use Rattle.lapd_tei.proofs.assigner.one_more.Goals as goal

pub returns-in-One : goal.returns-in-One
returns-in-One c = search rules
