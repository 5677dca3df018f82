use Rattle.std.proofs.Common.{rules}
use Rattle.lapd_link.proofs.link.Link.new.Goals as goal

pub returns-clause-setup : goal.returns-clause-setup
returns-clause-setup c = search rules
