use Rattle.std.proofs.Common.{rules}
use Rattle.lapd_trace.proofs.trace.line.Goals as goal

pub returns : goal.returns
returns c = search rules
