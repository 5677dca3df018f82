use Rattle.std.proofs.Common.{◌≡◌, length}
use Rattle.lapd_cli_decode.specs.Loose.{without_front}
use Rattle.lapd_cli_decode.proofs.loose.without_front.Given as goal

abbrev pub invariant-loop-remaining : goal.invariant-loop-remaining
invariant-loop-remaining l = without_front l.remaining ≡ without_front l.initial.remaining

abbrev pub decreases-loop-remaining : goal.decreases-loop-remaining
decreases-loop-remaining l = length l.remaining
