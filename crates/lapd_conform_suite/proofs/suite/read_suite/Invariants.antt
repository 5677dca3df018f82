use Rattle.std.proofs.Common.{◌≡◌, length}
use Rattle.lapd_cli_script.specs.Script.{lines_of}
use Rattle.lapd_conform_suite.specs.Suites.{lines_from, after_lines, start}
use Rattle.lapd_conform_suite.proofs.suite.read_suite.Given as goal

abbrev pub invariant-loop-line : goal.invariant-loop-line
invariant-loop-line l = lines_from 1 start (lines_of l.initial.rest)
    ≡ after_lines l.lines.items (lines_from l.number l.progress (lines_of l.rest))

abbrev pub decreases-loop-line : goal.decreases-loop-line
decreases-loop-line l = length l.rest
