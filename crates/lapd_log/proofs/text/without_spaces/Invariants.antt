use Rattle.std.proofs.Common.{◌≡◌, length}
use Rattle.lapd_log.specs.Text.{without_spaces}
use Rattle.lapd_log.proofs.text.without_spaces.Given as goal

abbrev pub invariant-loop-remaining : goal.invariant-loop-remaining
invariant-loop-remaining l = without_spaces l.remaining ≡ without_spaces l.initial.remaining

abbrev pub decreases-loop-remaining : goal.decreases-loop-remaining
decreases-loop-remaining l = length l.remaining
