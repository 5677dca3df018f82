use Rattle.std.proofs.Common.{◌≡◌, Some, subst, sym, ◌∙◌}
use Rattle.std.specs.Prelude.{slice_get}
use Rattle.lapd_bus.specs.declared.terminal.Terminal.{Terminal}
use Rattle.lapd_bus.proofs.Listed.{same_read, shown_here}
use Rattle.lapd_bus.proofs.NetworkSide.{network_taken}
use Rattle.lapd_bus.proofs.side_bus.SideBus.take_from.Goals as goal

pub returns-in_default : goal.returns-in_default
returns-in_default c = λ config t b shown there.
    let its = shown_here c.args.self.now.terminals.items config.user b.terminals c.args.at
    c.index.result.now t shown.terminals c.requires.there c.index.ensures there in (
      sym its.outgoing ∙ c.in_default.ensures.none,
      record {
        shown = record {
          network_config = shown.network_config;
          terminal_config = shown.terminal_config;
          network = shown.network;
          terminals = shown.terminals;
        };
        nothing = c.requires.empty;
      },
    )

pub returns : goal.returns
returns c = network_taken c.args.self.now c.send.new.self c.args.at
    (record {
      network_config = c.send.ensures.network_config;
      terminal_config = c.send.ensures.terminal_config;
    })
    c.take.new.acts c.args.now c.index_mut.result.now c.in-Some.octets.now c.lose.new.self
    c.send.result (record { within = c.requires.there; read = c.index_mut.ensures.value })
    (subst (λ (code : Terminal). slice_get code.outgoing 0 ≡ Some c.in-Some.octets.now)
    (same_read c.args.self.now.terminals.items c.args.at c.index.result.now
    c.index_mut.result.now c.requires.there c.index.ensures c.index_mut.ensures.value)
    c.in-Some.ensures.some)
    (rw c.send.ensures.network c.in-Ok.ensures.received)
    c.lose.ensures.removed c.send.ensures.made c.send.ensures.sent
