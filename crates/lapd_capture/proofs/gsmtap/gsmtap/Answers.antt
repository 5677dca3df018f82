use Rattle.std.proofs.Common.{rules}
use Rattle.lapd_capture.proofs.gsmtap.gsmtap.Goals as goal

pub returns-clause-exact : goal.returns-clause-exact
returns-clause-exact c = search rules
