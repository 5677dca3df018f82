use Rattle.std.proofs.Common.{◌≡◌, length}
use Rattle.lapd_cli_console.specs.Tidied.{without_end}
use Rattle.lapd_cli_console.proofs.typed_line.without_end.Given as goal

abbrev pub invariant-loop-rest : goal.invariant-loop-rest
invariant-loop-rest l = without_end l.remaining ≡ without_end l.initial.remaining

abbrev pub decreases-loop-rest : goal.decreases-loop-rest
decreases-loop-rest l = length l.remaining
