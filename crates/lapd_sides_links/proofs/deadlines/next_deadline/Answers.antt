use Rattle.std.proofs.Common.{ℕ, Option, ap, ◌∙◌}
use Rattle.lapd_timers.specs.Moments.{earlier}
use Rattle.lapd_sides_links.proofs.DueTimers.{next_of_served}
use Rattle.lapd_sides_links.proofs.deadlines.next_deadline.Goals as goal

pub returns : goal.returns
returns c =
    λ side shown shows. next_of_served (record { links = shown; timers = c.args.management.now })
    c.first.result c.earlier.result (c.first.ensures side shown shows)
    (c.earlier.ensures
    ∙ (ap (λ (own : Option ℕ). earlier own c.deadline_of.result) c.least_deadline.ensures
    ∙ ap (earlier (earlier (earlier c.args.management.now.t200 c.args.management.now.t201)
    (earlier c.args.management.now.t202 c.args.management.now.t203)))
    c.deadline_of.ensures))
