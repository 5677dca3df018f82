use Rattle.std.proofs.Common.{rules}
use Rattle.lapd_link.proofs.link.Link.is_for.Goals as goal

pub returns-then-value : goal.returns-then-value
returns-then-value c = search rules

pub returns-else-value : goal.returns-else-value
returns-else-value c = search rules
