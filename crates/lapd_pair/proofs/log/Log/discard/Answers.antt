use Rattle.std.proofs.Common.{rules}
use Rattle.lapd_pair.proofs.log.Log.discard.Goals as goal

pub returns-clause-history : goal.returns-clause-history
returns-clause-history c = search rules
