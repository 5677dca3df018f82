use Rattle.std.proofs.Common.{rules}
use Rattle.lapd_sides.proofs.links_and_timer.one_more.Goals as goal

pub returns : goal.returns
returns c = search rules
