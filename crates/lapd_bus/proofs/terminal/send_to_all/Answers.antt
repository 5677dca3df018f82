use Rattle.std.proofs.Common.{map, rules}
use Rattle.std.proofs.lemmas.List.Edits.{map_over_more}
use Rattle.lapd_bus.specs.Shows.{reached_by}
use Rattle.lapd_bus.proofs.terminal.send_to_all.Goals as goal

pub loop-terminal-preserved : goal.loop-terminal-preserved
loop-terminal-preserved c =
    search (rules, c.in_ok-receive.ensures, map_over_more (reached_by (map (λ frame. frame.items) c.args.frames.now)))
