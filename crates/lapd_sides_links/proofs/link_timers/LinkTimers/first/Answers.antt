use Rattle.std.proofs.Common.{Option, sym, subst}
use Rattle.lapd_sides_links.specs.declared.link_timers.LinkTimers.{LinkTimers}
use Rattle.lapd_sides_links.specs.declared.running_timer.RunningTimer.{RunningTimer}
use Rattle.lapd_sides_links.specs.Expiries.{IsFirst, Runs}
use Rattle.lapd_sides_links.specs.LinkTimers.{timers_of}
use Rattle.lapd_sides_links.specs.TimersAtPlaces.{of_each_link}
use Rattle.lapd_sides_links.proofs.link_timers.LinkTimers.first.Goals as goal

abbrev FirstOf : Option RunningTimer → LinkTimers → Type 0
FirstOf first s = IsFirst (Runs (of_each_link (timers_of s))) first

pub returns-in-One : goal.returns-in-One
unfolding timers_of
returns-in-One c = subst (FirstOf c.first.result) (sym c.in-One.is) c.first.ensures

pub returns-in-Many : goal.returns-in-Many
unfolding timers_of
returns-in-Many c =
    subst (FirstOf c.first-in-Many.result) (sym c.in-Many.is) c.first-in-Many.ensures
