use Rattle.std.proofs.Common.{rules}
use Rattle.lapd_link.proofs.link.Link.give.Goals as goal

pub returns-clause-ok : goal.returns-clause-ok
returns-clause-ok c = search rules
