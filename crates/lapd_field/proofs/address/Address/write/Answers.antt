use Rattle.std.proofs.Common.{rules}
use Rattle.lapd_field.proofs.address.Address.write.Goals as goal

pub returns-clause-octets : goal.returns-clause-octets
returns-clause-octets c = search rules
