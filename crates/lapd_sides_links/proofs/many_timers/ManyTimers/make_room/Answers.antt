use Rattle.lapd_sides_links.proofs.DueTimers.{entered_still}
use Rattle.lapd_sides_links.proofs.many_timers.ManyTimers.make_room.Goals as goal

pub invariant_of-self : goal.invariant_of-self
invariant_of-self c =
    entered_still c.self.inside.places c.make_room.new.self c.make_room.ensures.kept
    c.self.inside.expiries c.self.invariant
