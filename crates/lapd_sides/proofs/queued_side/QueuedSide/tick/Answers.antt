use Rattle.lapd_sides.specs.Queued.{Ticks}
use Rattle.lapd_sides.proofs.Queueing.{behind_ready, ticked}
use Rattle.lapd_sides.proofs.queued_side.QueuedSide.tick.Goals as goal

pub returns-clause-ticked : goal.returns-clause-ticked
returns-clause-ticked c =
    let ready = c.set_aside.new.self in
    behind_ready (Ticks c.args.now c.tick.result) c.args.self.now ready c.tick.new.self
    c.tick.new.acts (c.in_ok-set_aside.ensures).ok
    (ticked c.args.now c.tick.result ready.side c.tick.new.self c.tick.new.acts
    c.tick.ensures.due c.tick.ensures.none c.tick.ensures.nothing)
