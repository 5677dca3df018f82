use Rattle.std.proofs.Common.{Option, sym, subst}
use Rattle.lapd_table.specs.declared.link_id.LinkId.{LinkId}
use Rattle.lapd_timers.specs.Due.{Timers}
use Rattle.lapd_sides_links.specs.declared.link_timers.LinkTimers.{LinkTimers}
use Rattle.lapd_sides_links.specs.declared.running_timer.RunningTimer.{RunningTimer}
use Rattle.lapd_sides_links.specs.Expiries.{IsFirst, IsPast}
use Rattle.lapd_sides_links.specs.LinkTimers.{timers_of}
use Rattle.lapd_sides_links.specs.TimersAtPlaces.{of_each_link}
use Rattle.lapd_sides_links.proofs.DueTimers.{none_runs, first_is_past, first_is_later}
use Rattle.lapd_sides_links.proofs.link_timers.LinkTimers.due.Goals as goal

abbrev of_links : LinkTimers → Option LinkId → Option Timers
of_links s = of_each_link (timers_of s)

pub returns-in_err-first : goal.returns-in_err-first
returns-in_err-first c =
    let links = of_links c.args.self.now in
    subst (λ (first : Option RunningTimer). IsFirst (IsPast c.args.now links) first)
    (sym c.from_residual.ensures) (none_runs c.args.now links c.in_err-first.ensures)

pub returns-then-first-now : goal.returns-then-first-now
returns-then-first-now c = first_is_past c.args.now (of_links c.args.self.now) c.in_ok-first.first
    c.in_ok-first.ensures c.if-first-now.true

pub returns-else-first-now : goal.returns-else-first-now
returns-else-first-now c = first_is_later c.args.now (of_links c.args.self.now) c.in_ok-first.first
    c.in_ok-first.ensures c.if-first-now.false
