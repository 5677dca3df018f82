use Rattle.std.proofs.Common.{◌<◌, length, refl, subst}
use Rattle.lapd_bus.specs.Stations.{index_of}
use Rattle.lapd_bus.proofs.Sides.{IsReplaced, ok_so, terminal_shown, terminal_takes}
use Rattle.lapd_bus.proofs.side_bus.SideBus.take.Goals as goal

pub returns-in-Terminal : goal.returns-in-Terminal
returns-in-Terminal c = rw c.in-Terminal.is
    (ok_so c.take.result _ _ (λ o h. λ config t b shown there.
    let r : IsReplaced c.args.self.now _ c.in-Terminal.at c.index_mut.result.now c.take.new.self =
    record {
      within = subst (λ at. index_of at < length c.args.self.now.terminals.items) c.in-Terminal.is
          c.requires.there;
      read = c.index_mut.ensures.value;
      network = refl;
      terminals = refl;
      same = record { network_config = refl; terminal_config = refl };
    } in
    terminal_takes c.args.self.now _ c.take.new.acts c.in-Terminal.at c.index_mut.result.now
    c.take.new.self r config t b shown there c.args.now o
    (h config.user t (terminal_shown c.args.self.now _ c.take.new.acts c.in-Terminal.at
    c.index_mut.result.now c.take.new.self r config t b shown there))) c.take.ensures)

pub returns-in-Network : goal.returns-in-Network
returns-in-Network c = rw c.in-Network.is c.take_from.ensures
