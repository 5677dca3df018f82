use Rattle.std.proofs.Common.{◌≡◌, length}
use Rattle.lapd_conform_suite.specs.Frames.{after_fields}
use Rattle.lapd_conform_suite.proofs.frame.read_fields.Given as goal

abbrev pub invariant-loop-word : goal.invariant-loop-word
invariant-loop-word l = after_fields l.initial.words (l.initial.read.fields, l.initial.read.digits.now)
    ≡ after_fields l.words (l.read.fields, l.read.digits.now)

abbrev pub decreases-loop-word : goal.decreases-loop-word
decreases-loop-word l = length l.words
