use Rattle.lapd_tei.proofs.RunPreserves.{RunSoFar}
use Rattle.lapd_tei.proofs.bus.Bus.run.Given as goal

abbrev pub invariant-loop-place : goal.invariant-loop-place
invariant-loop-place l = RunSoFar l.fn.self l.self l.moves l.place l.refused
