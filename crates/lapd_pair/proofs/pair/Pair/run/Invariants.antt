use Rattle.std.proofs.Common.{map}
use Rattle.lapd_pair.specs.Moves.{move_of}
use Rattle.lapd_pair.proofs.Runs.{AreDone}
use Rattle.lapd_pair.proofs.pair.Pair.run.Given as goal

abbrev pub invariant-loop-at : goal.invariant-loop-at
invariant-loop-at l = AreDone l.initial.self (map move_of l.moves) l.at l.refused l.self
