use Rattle.std.proofs.Common.{option_copied}
use Rattle.lapd_sides_links.proofs.DueTimers.{entered_anew}
use Rattle.lapd_sides_links.proofs.many_timers.ManyTimers.restart.Goals as goal

pub invariant_of-self : goal.invariant_of-self
invariant_of-self c =
    entered_anew c.self.inside.places c.restart.new.self c.self.inside.expiries c.enter.new.expiries
    c.args.id (option_copied c.get.result)
    c.get.ensures c.enter.ensures.tei c.enter.ensures.own c.enter.ensures.others
    c.restart.ensures.others c.self.invariant
