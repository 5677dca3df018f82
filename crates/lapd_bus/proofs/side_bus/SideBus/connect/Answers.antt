use Rattle.std.proofs.Common.{subst, sym}
use Rattle.lapd_bus.specs.Shows.{joining, ShowTerminal}
use Rattle.lapd_side_events.specs.Bus.{connected}
use Rattle.lapd_bus.proofs.Listed.{shown_more}
use Rattle.lapd_bus.proofs.side_bus.SideBus.connect.Goals as goal

pub returns : goal.returns
returns c = λ config b shown. record {
  network_config = shown.network_config;
  terminal_config = shown.terminal_config;
  network = shown.network;
  terminals = rw c.in_ok-push.ensures.items
      (shown_more c.args.self.now.terminals.items config.user b.terminals c.in_ok-terminal.terminal
      (connected config (joining c.args.new)) shown.terminals
      (subst (λ user. ShowTerminal c.in_ok-terminal.terminal user
      (connected config (joining c.args.new))) shown.terminal_config
      (c.in_ok-terminal.ensures config (sym shown.terminal_config))));
}
