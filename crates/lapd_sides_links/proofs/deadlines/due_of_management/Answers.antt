use Rattle.std.proofs.Common.{Option, sym, subst}
use Rattle.lapd_sides_links.specs.declared.running_timer.RunningTimer.{RunningTimer}
use Rattle.lapd_sides_links.specs.Expiries.{IsFirst, IsPast, of_management}
use Rattle.lapd_sides_links.proofs.DueTimers.{none_of_management, due_of_management}
use Rattle.lapd_sides_links.proofs.deadlines.due_of_management.Goals as goal

pub returns-in_err-timer-clause-first : goal.returns-in_err-timer-clause-first
returns-in_err-timer-clause-first c =
    subst (λ (first : Option RunningTimer). IsFirst
    (IsPast c.args.now (of_management c.args.timers.now)) first) (sym c.from_residual.ensures)
    (none_of_management c.args.now c.args.timers.now c.in_err-timer.ensures)

pub returns-clause-first : goal.returns-clause-first
returns-clause-first c =
    due_of_management c.args.now c.args.timers.now c.in_ok-timer.timer c.in_ok-deadline.deadline
    c.in_ok-timer.ensures (sym c.in_ok-deadline.ensures)
