use Rattle.std.proofs.Common.{◌≡◌, ◌+◌, ◌≤◌, length}
use Rattle.lapd_cli_script.specs.Script.{lines_of}
use Rattle.lapd_cli_conform.specs.StackFiles.{stack_from}
use Rattle.lapd_cli_conform.proofs.stack_file.read_stack.Given as goal

abbrev pub invariant-loop-line : goal.invariant-loop-line
invariant-loop-line l =
    (stack_from 1 l.initial.stack (lines_of l.initial.rest) ≡ stack_from l.number l.stack (lines_of l.rest))
    × (l.number + length l.rest ≤ 1 + length l.initial.rest)

abbrev pub decreases-loop-line : goal.decreases-loop-line
decreases-loop-line l = length l.rest
