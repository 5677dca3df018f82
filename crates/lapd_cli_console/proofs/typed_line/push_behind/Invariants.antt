use Rattle.std.proofs.Common.{◌≡◌, ◌++◌, length}
use Rattle.lapd_cli_console.specs.Tidied.{spaced, tidied_behind}
use Rattle.lapd_cli_console.proofs.typed_line.push_behind.Given as goal

abbrev pub invariant-loop-left : goal.invariant-loop-left
invariant-loop-left l =
    l.text.items ++ spaced (tidied_behind l.left l.words) ≡ l.initial.text.items
    ++ spaced (tidied_behind l.initial.left l.initial.words)

abbrev pub decreases-loop-left : goal.decreases-loop-left
decreases-loop-left l = length l.left
