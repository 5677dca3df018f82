use Rattle.std.proofs.Common.{rules}
use Rattle.lapd_sides_links.proofs.running_timer.is_no_later_link.Goals as goal

pub returns : goal.returns
returns c = search rules
