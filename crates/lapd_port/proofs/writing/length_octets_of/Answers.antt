use Rattle.std.proofs.Common.{rules}
use Rattle.lapd_port.proofs.writing.length_octets_of.Goals as goal

pub returns : goal.returns
returns c = search rules
