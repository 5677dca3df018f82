use Rattle.lapd_mod128.specs.Counting.{Tagged}
use Rattle.lapd_recovery_laws.specs.Own.{recovering}
use Rattle.lapd_pair.proofs.Repeated.{AreMade}
use Rattle.lapd_pair.proofs.pair.Pair.recover.Given as goal

abbrev pub invariant-loop-moves : goal.invariant-loop-moves
invariant-loop-moves l = AreMade (recovering Tagged) l.initial.self l.moves l.self
