use Rattle.std.proofs.Common.{rules}
use Rattle.lapd_c.proofs.link_counts.LinkCounts.put.Goals as goal

pub returns-then-place-len : goal.returns-then-place-len
returns-then-place-len c = search rules
