use Rattle.std.proofs.Common.{rules}
use Rattle.lapd_port.proofs.reading.are_all.Goals as goal

pub returns : goal.returns
returns c = search rules
