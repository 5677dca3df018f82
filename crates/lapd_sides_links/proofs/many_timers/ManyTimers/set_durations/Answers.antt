use Rattle.lapd_sides_links.proofs.DueTimers.{entered_with_durations}
use Rattle.lapd_sides_links.proofs.many_timers.ManyTimers.set_durations.Goals as goal

pub invariant_of-self : goal.invariant_of-self
invariant_of-self c =
    entered_with_durations c.args.durations c.self.inside.places c.set_durations.new.self
    c.self.inside.expiries c.set_durations.ensures c.self.invariant
