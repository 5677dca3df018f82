use Rattle.std.proofs.Common.{◌≡◌, length}
use Rattle.lapd_cli_grammar.specs.Values.{line_values, with_words}
use Rattle.lapd_cli_grammar.proofs.reading.read_words.Given as goal

abbrev pub invariant-loop-left : goal.invariant-loop-left
invariant-loop-left l = with_words l.initial.left l.initial.words (line_values l.initial.values)
    ≡ with_words l.left l.words (line_values l.values)

abbrev pub decreases-loop-left : goal.decreases-loop-left
decreases-loop-left l = length l.left
