use Rattle.std.proofs.Common.{◌<◌, length, refl, subst}
use Rattle.std.specs.Vec.{with_item}
use Rattle.lapd_bus.specs.Stations.{index_of}
use Rattle.lapd_bus.specs.declared.side_bus.SideBus.{SideBus}
use Rattle.lapd_bus.proofs.Sides.{terminal_loses, network_loses, with_incoming, with_outgoing}
use Rattle.lapd_bus.proofs.side_bus.SideBus.lose.Goals as goal

pub returns-in-Terminal : goal.returns-in-Terminal
returns-in-Terminal c =
    let new : SideBus = record c.args.self.now {
      terminals = with_item c.args.self.now.terminals c.in-Terminal.at
          (with_incoming c.index_mut.result.now c.lose.new.self);
    } in
    rw (c.in-Terminal.is, c.made_if.ensures) (λ config t b shown there.
    terminal_loses c.args.self.now new c.in-Terminal.at c.args.place c.index_mut.result.now config t
    b shown there c.lose.new.self c.lose.result c.lose.ensures.there c.lose.ensures.removed (record {
      within = subst (λ at. index_of at < length c.args.self.now.terminals.items) c.in-Terminal.is
          c.requires;
      read = c.index_mut.ensures.value;
      network = refl;
      terminals = refl;
      same = record { network_config = refl; terminal_config = refl };
    }))

pub returns-in-Network : goal.returns-in-Network
returns-in-Network c =
    let new : SideBus = record c.args.self.now {
      terminals = with_item c.args.self.now.terminals c.in-Network.at
          (with_outgoing c.index_mut-in-Network.result.now c.lose-in-Network.new.self);
    } in
    rw (c.in-Network.is, c.made_if-in-Network.ensures) (λ config t b shown there.
    network_loses c.args.self.now new c.in-Network.at c.args.place
    c.index_mut-in-Network.result.now config t b shown there c.lose-in-Network.new.self
    c.lose-in-Network.result c.lose-in-Network.ensures.there c.lose-in-Network.ensures.removed
    (record {
      within = subst (λ at. index_of at < length c.args.self.now.terminals.items) c.in-Network.is
          c.requires;
      read = c.index_mut-in-Network.ensures.value;
      network = refl;
      terminals = refl;
      same = record { network_config = refl; terminal_config = refl };
    }))
