use Rattle.std.proofs.Common.{rules}
use Rattle.lapd_sides_links.proofs.deadlines.least_deadline.Goals as goal

pub returns : goal.returns
returns c = search rules
