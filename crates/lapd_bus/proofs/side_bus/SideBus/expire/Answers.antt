use Rattle.std.proofs.Common.{◌<◌, length, refl, subst}
use Rattle.lapd_bus.specs.Stations.{index_of}
use Rattle.lapd_bus.proofs.NetworkSide.{network_expired}
use Rattle.lapd_bus.proofs.Sides.{IsReplaced, ok_so, terminal_shown, terminal_expires}
use Rattle.lapd_bus.proofs.side_bus.SideBus.expire.Goals as goal

pub returns-in-Terminal : goal.returns-in-Terminal
returns-in-Terminal c = rw c.in-Terminal.is
    (ok_so c.expire.result _ _ (λ o h. λ config t b shown there.
    let r : IsReplaced c.args.self.now _ c.in-Terminal.at c.index_mut.result.now c.expire.new.self =
    record {
      within = subst (λ at. index_of at < length c.args.self.now.terminals.items) c.in-Terminal.is
          c.requires;
      read = c.index_mut.ensures.value;
      network = refl;
      terminals = refl;
      same = record { network_config = refl; terminal_config = refl };
    } in
    terminal_expires c.args.self.now _ c.expire.new.acts c.in-Terminal.at c.index_mut.result.now
    c.expire.new.self r config t b shown there c.args.now o
    (h config.user t (terminal_shown c.args.self.now _ c.expire.new.acts c.in-Terminal.at
    c.index_mut.result.now c.expire.new.self r config t b shown there))) c.expire.ensures)

pub returns-then-tick : goal.returns-then-tick
returns-then-tick c = rw c.in-Network.is
    (network_expired c.args.self.now c.send.new.self c.in-Network.field-0
    (record {
      network_config = c.send.ensures.network_config;
      terminal_config = c.send.ensures.terminal_config;
    })
    c.tick.new.acts c.args.now c.send.result
    (rw c.send.ensures.network (c.tick.ensures.due c.if-tick.true)) c.send.ensures.made c.send.ensures.sent)

pub returns-else-tick : goal.returns-else-tick
returns-else-tick c = rw c.in-Network.is (λ config t b shown there.
    let idle = c.tick.ensures.none c.if-tick.false config.network b.network shown.network in (
      idle.0,
      record {
        shown = record {
          network_config = shown.network_config;
          terminal_config = shown.terminal_config;
          network = idle.1;
          terminals = shown.terminals;
        };
        nothing = c.tick.ensures.nothing c.if-tick.false;
      },
    ))
