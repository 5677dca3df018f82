use Rattle.std.proofs.Common.{◌≡◌, ◌++◌, length}
use Rattle.lapd_cli_link_commands.specs.PairLadder.{notes_in}
use Rattle.lapd_cli_link_commands.proofs.notes.push_notes.Given as goal

abbrev pub invariant-loop-line : goal.invariant-loop-line
invariant-loop-line l =
    l.drawn.items ++ notes_in l.rest ≡ l.initial.drawn.items ++ notes_in l.initial.rest

abbrev pub decreases-loop-line : goal.decreases-loop-line
decreases-loop-line l = length l.rest
