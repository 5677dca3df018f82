use Rattle.std.proofs.Common.{◌≡◌, length}
use Rattle.lapd_conform_suite.specs.Frames.{all_digits}
use Rattle.lapd_conform_suite.proofs.frame.are_digits.Given as goal

abbrev pub invariant-loop-left : goal.invariant-loop-left
invariant-loop-left l = all_digits l.initial.left ≡ all_digits l.left

abbrev pub decreases-loop-left : goal.decreases-loop-left
decreases-loop-left l = length l.left
