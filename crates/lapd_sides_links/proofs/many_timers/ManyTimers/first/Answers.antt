use Rattle.lapd_sides_links.proofs.DueTimers.{first_of_entries}
use Rattle.lapd_sides_links.proofs.many_timers.ManyTimers.first.Goals as goal

pub returns : goal.returns
returns c =
    rw (← c.self.view_is) (first_of_entries c.self.inside.places c.self.inside.expiries
    c.first.result c.self.invariant c.first.ensures)
