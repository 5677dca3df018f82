use Rattle.std.proofs.Common.{◌≡◌, ◌++◌, length}
use Rattle.lapd_cli_console.specs.Tidied.{spaced}
use Rattle.lapd_cli_console.proofs.typed_line.push_words.Given as goal

abbrev pub invariant-loop-word : goal.invariant-loop-word
invariant-loop-word l =
    l.text.items ++ spaced l.words ≡ l.initial.text.items ++ spaced l.initial.words

abbrev pub decreases-loop-word : goal.decreases-loop-word
decreases-loop-word l = length l.words
