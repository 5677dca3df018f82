use Rattle.std.proofs.Common.{rules}
use Rattle.lapd_table.proofs.link_id.LinkId.place.Goals as goal

pub returns-clause-value : goal.returns-clause-value
returns-clause-value c = search rules
