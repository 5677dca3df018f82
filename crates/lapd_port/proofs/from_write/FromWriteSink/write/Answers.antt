use Rattle.std.proofs.Common.{rules}
use Rattle.lapd_port.proofs.from_write.FromWriteSink.write.Goals as goal

pub returns-in-Ok-clause-octets : goal.returns-in-Ok-clause-octets
returns-in-Ok-clause-octets g c = search rules
