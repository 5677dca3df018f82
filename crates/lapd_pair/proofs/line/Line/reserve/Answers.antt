use Rattle.std.proofs.Common.{rules}
use Rattle.lapd_pair.proofs.line.Line.reserve.Goals as goal

pub returns-clause-octets : goal.returns-clause-octets
returns-clause-octets c = search rules

pub returns-clause-shows : goal.returns-clause-shows
returns-clause-shows c = search rules
