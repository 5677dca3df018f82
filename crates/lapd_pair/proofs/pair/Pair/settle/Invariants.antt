use Rattle.lapd_mod128.specs.Counting.{Tagged}
use Rattle.lapd_pair_laws.specs.Settle.{settling}
use Rattle.lapd_pair.proofs.Repeated.{AreMade}
use Rattle.lapd_pair.proofs.pair.Pair.settle.Given as goal

abbrev pub invariant-loop-moves : goal.invariant-loop-moves
invariant-loop-moves l = AreMade (settling Tagged) l.initial.self l.moves l.self
