use Rattle.std.proofs.Common.{rules}
use Rattle.lapd_link_definition.proofs.out.Letter.name.Goals as goal

pub returns-in-G : goal.returns-in-G
returns-in-G c = search rules
