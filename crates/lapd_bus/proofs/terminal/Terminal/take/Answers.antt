use Rattle.lapd_bus.proofs.Sent.{taken}
use Rattle.lapd_bus.proofs.terminal.Terminal.take.Goals as goal

pub returns : goal.returns
returns c = taken c.args.self.now c.take.new.self c.lose.new.self c.send.new.self c.in-Some.octets.now
    c.args.now c.take.new.acts c.send.result c.in-Some.ensures.some c.in-Ok.ensures.received
    c.lose.ensures.removed c.send.ensures.made c.send.ensures.sent
