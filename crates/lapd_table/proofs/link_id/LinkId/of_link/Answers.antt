use Rattle.std.proofs.Common.{rules}
use Rattle.lapd_table.proofs.link_id.LinkId.of_link.Goals as goal

pub returns : goal.returns
returns c = search rules
