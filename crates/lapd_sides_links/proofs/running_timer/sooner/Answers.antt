use Rattle.std.proofs.Common.{rules}
use Rattle.lapd_sides_links.proofs.running_timer.sooner.Goals as goal

pub returns-then-is_no_later : goal.returns-then-is_no_later
returns-then-is_no_later c = search rules

pub returns-else-is_no_later : goal.returns-else-is_no_later
returns-else-is_no_later c = search rules
