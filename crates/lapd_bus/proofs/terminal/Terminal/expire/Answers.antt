use Rattle.lapd_bus.proofs.Sent.{expired}
use Rattle.lapd_bus.proofs.terminal.Terminal.expire.Goals as goal

pub returns-then-tick : goal.returns-then-tick
returns-then-tick c = expired c.args.self.now c.tick.new.self c.send.new.self c.args.now
    c.tick.new.acts c.send.result (c.tick.ensures.due c.if-tick.true) c.send.ensures.made
    c.send.ensures.sent

pub returns-else-tick : goal.returns-else-tick
returns-else-tick c = λ config t shown.
    let idle = c.tick.ensures.none c.if-tick.false config t.now shown.side in (
      idle.0,
      record {
        shown = record {
          side = idle.1;
          incoming = shown.incoming;
          outgoing = shown.outgoing;
        };
        nothing = c.tick.ensures.nothing c.if-tick.false;
      },
    )
