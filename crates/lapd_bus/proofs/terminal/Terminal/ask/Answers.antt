use Rattle.lapd_sides.specs.Requests.{message_of}
use Rattle.lapd_bus.proofs.Sent.{asked}
use Rattle.lapd_bus.proofs.terminal.Terminal.ask.Goals as goal

pub returns-in-Ok : goal.returns-in-Ok
returns-in-Ok c = asked c.args.self.now c.request.new.self c.send.new.self c.args.request
    c.args.now c.request.new.acts (message_of c.args.request) c.send.result c.in-Ok.ensures
    c.send.ensures.made c.send.ensures.sent

pub returns-in-Err : goal.returns-in-Err
returns-in-Err c = λ config t shown. (
  c.in-Err.ensures.kind config t.now shown.side,
  c.in-Err.ensures.returned,
  record {
    shown = record {
      side = c.in-Err.ensures.unchanged config t.now shown.side;
      incoming = shown.incoming;
      outgoing = shown.outgoing;
    };
    nothing = c.in-Err.ensures.nothing;
  },
)
