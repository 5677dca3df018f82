use Rattle.std.proofs.Common.{◌<◌, length, refl, subst}
use Rattle.lapd_sides.specs.Requests.{message_of}
use Rattle.lapd_bus.specs.Stations.{index_of}
use Rattle.lapd_bus.proofs.NetworkSide.{network_asked}
use Rattle.lapd_bus.proofs.Sides.{IsReplaced, ok_so, terminal_shown, terminal_asks}
use Rattle.lapd_bus.proofs.side_bus.SideBus.ask.Goals as goal

pub returns-in-Terminal : goal.returns-in-Terminal
returns-in-Terminal c = rw c.in-Terminal.is
    (ok_so c.ask.result _ _ (λ o h. λ config t b shown there.
    let r : IsReplaced c.args.self.now _ c.in-Terminal.at c.index_mut.result.now c.ask.new.self =
    record {
      within = subst (λ at. index_of at < length c.args.self.now.terminals.items) c.in-Terminal.is
          c.requires;
      read = c.index_mut.ensures.value;
      network = refl;
      terminals = refl;
      same = record { network_config = refl; terminal_config = refl };
    } in
    terminal_asks c.args.self.now _ c.ask.new.acts c.in-Terminal.at c.index_mut.result.now
    c.ask.new.self r config t b shown there c.args.request c.args.now o
    (h config.user t (terminal_shown c.args.self.now _ c.ask.new.acts c.in-Terminal.at
    c.index_mut.result.now c.ask.new.self r config t b shown there))) c.ask.ensures)

pub returns-in-Ok : goal.returns-in-Ok
returns-in-Ok c = rw c.in-Network.is
    (network_asked c.args.self.now c.send.new.self c.in-Network.field-0
    (record {
      network_config = c.send.ensures.network_config;
      terminal_config = c.send.ensures.terminal_config;
    })
    c.request.new.acts c.args.now c.args.request (message_of c.args.request) c.send.result
    (rw c.send.ensures.network c.in-Ok.ensures) c.send.ensures.made c.send.ensures.sent)

pub returns-in-Err : goal.returns-in-Err
returns-in-Err c = rw c.in-Network.is (λ config t b shown there. (
  c.in-Err.ensures.kind config.network b.network shown.network,
  c.in-Err.ensures.returned,
  record {
    shown = record {
      network_config = shown.network_config;
      terminal_config = shown.terminal_config;
      network = c.in-Err.ensures.unchanged config.network b.network shown.network;
      terminals = shown.terminals;
    };
    nothing = c.in-Err.ensures.nothing;
  },
))
