use Rattle.lapd_sides.proofs.Calling.{next_so}
use Rattle.lapd_sides.proofs.managed_side.ManagedSide.next_deadline.Goals as goal

pub returns : goal.returns
returns g c = λ config s shown.
    next_so s.served c.args.self.now.served.timers c.next_deadline.result shown.served.timers
    (c.next_deadline.ensures g.M.Represented.rules.side s.served.links shown.served.links)
