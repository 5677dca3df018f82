use Rattle.std.proofs.Common.{rules}
use Rattle.lapd_port.proofs.port.is_failure.Goals as goal

pub returns : goal.returns
returns c = search rules
