use Rattle.lapd_sides_links.proofs.LoneTimers.{first_of_lone}
use Rattle.lapd_sides_links.proofs.lone_timers.LoneTimers.first.Goals as goal

pub returns : goal.returns
returns c = first_of_lone c.args.self.now c.first_of_link.result c.first_of_link.ensures
