use Rattle.std.proofs.Common.{◌≡◌, ◌++◌, map, take}
use Rattle.lapd_bus.proofs.line.Line.append.Given as goal

abbrev pub invariant-loop-frame : goal.invariant-loop-frame
invariant-loop-frame l = l.self ≡ l.initial.self ++ map (λ frame. frame.items) (take l.frame-index l.frames)
