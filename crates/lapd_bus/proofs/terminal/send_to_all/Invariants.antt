use Rattle.std.proofs.Common.{◌≡◌, ◌++◌, map, take, drop}
use Rattle.lapd_bus.specs.Shows.{reached_by}
use Rattle.lapd_bus.proofs.terminal.send_to_all.Given as goal

abbrev pub invariant-loop-terminal : goal.invariant-loop-terminal
invariant-loop-terminal l = l.terminals
    ≡ map (reached_by (map (λ frame. frame.items) l.frames)) (take l.terminal-index l.initial.terminals)
    ++ drop l.terminal-index l.initial.terminals
