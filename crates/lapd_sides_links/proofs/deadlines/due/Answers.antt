use Rattle.lapd_sides_links.specs.Expiries.{IsTimerOf}
use Rattle.lapd_sides_links.proofs.DueTimers.{first_of_served, sooner_own}
use Rattle.lapd_sides_links.proofs.deadlines.due.Goals as goal

pub returns-clause-due : goal.returns-clause-due
returns-clause-due c =
    λ side shown shows. first_of_served c.args.now
    (record { links = shown; timers = c.args.management.now }) c.due_of_management-own.result
    c.due-of_link.result c.sooner.result
    c.due_of_management-own.ensures.first (c.due-of_link.ensures.first side shown shows)
    c.sooner.ensures

pub returns-clause-own : goal.returns-clause-own
returns-clause-own c =
    sooner_own (λ e. IsTimerOf e.of e.timer) c.due_of_management-own.result c.due-of_link.result
    c.sooner.result c.due_of_management-own.ensures.own c.due-of_link.ensures.own c.sooner.ensures
