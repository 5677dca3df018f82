use Rattle.std.proofs.Common.{◌≡◌, length, rules, ◌∙◌}
use Rattle.lapd_bus.proofs.Listed.{same_count}
use Rattle.lapd_bus.proofs.side_bus.SideBus.terminals.Goals as goal

pub returns : goal.returns
returns c = λ config b shown.
    let count : c.len.result ≡ length c.args.self.now.terminals.items = search rules in
    count ∙ same_count c.args.self.now.terminals.items config.user b.terminals shown.terminals
