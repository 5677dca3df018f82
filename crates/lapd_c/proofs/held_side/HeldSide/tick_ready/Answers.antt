use Rattle.lapd_c.proofs.Asked.{ticks_ready}
use Rattle.lapd_c.proofs.held_side.HeldSide.tick_ready.Goals as goal

pub returns-clause-ticked : goal.returns-clause-ticked
returns-clause-ticked c =
    ticks_ready c.args.now c.tick.result c.args.self.now c.make_ready.new.self c.tick.new.self
    (c.in_ok-make_ready.ensures).ready c.tick.ensures.ticked
