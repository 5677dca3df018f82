use Rattle.std.proofs.Common.{◌≡◌, length, map}
use Rattle.lapd_conform_suite.specs.Reading.{front_value}
use Rattle.lapd_conform_suite.specs.Words.{row_of}
use Rattle.lapd_conform_suite.proofs.reading.front_of.Given as goal

abbrev pub invariant-loop-left : goal.invariant-loop-left
invariant-loop-left g l = front_value (map row_of l.initial.left) l.word
    ≡ front_value (map row_of l.left) l.word

abbrev pub decreases-loop-left : goal.decreases-loop-left
decreases-loop-left g l = length l.left
