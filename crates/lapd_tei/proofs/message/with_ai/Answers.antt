use Rattle.std.proofs.Common.{rules}
use Rattle.lapd_tei.proofs.message.with_ai.Goals as goal

pub returns-then-permitted : goal.returns-then-permitted
returns-then-permitted c = search rules
