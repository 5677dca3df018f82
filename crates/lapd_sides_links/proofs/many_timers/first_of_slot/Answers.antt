use Rattle.lapd_sides_links.proofs.many_timers.first_of_slot.Goals as goal

pub returns-in_default : goal.returns-in_default
returns-in_default c = rw c.in_default.is (λ e x. x)

pub returns : goal.returns
returns c = rw c.in-Some.is c.first_of_link.ensures
