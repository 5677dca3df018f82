use Rattle.lapd_sides_links.specs.LinkTimers.{timers_of}
use Rattle.lapd_sides_links.specs.TimersAtPlaces.{of_each_link}
use Rattle.lapd_sides_links.proofs.Acting.{first_of_links}
use Rattle.lapd_sides_links.proofs.DueTimers.{own_timer}
use Rattle.lapd_sides_links.proofs.link_set.LinkSet.due.Goals as goal

pub returns-clause-first : goal.returns-clause-first
returns-clause-first c =
    λ side links shown. first_of_links side c.args.self.now links c.args.now c.due.result shown
    c.due.ensures

pub returns-clause-own : goal.returns-clause-own
returns-clause-own c =
    own_timer c.args.now (of_each_link (timers_of c.args.self.now.link_timers)) c.due.result
    c.due.ensures
