use Rattle.std.proofs.Common.{◌≡◌, ◌++◌, length}
use Rattle.std.specs.List.{flat_map}
use Rattle.lapd_cli_console.specs.Tidied.{digits_of_word, spaced}
use Rattle.lapd_cli_console.proofs.typed_line.push_hex.Given as goal

abbrev pub invariant-loop-word : goal.invariant-loop-word
invariant-loop-word l = record {
  digits : l.digits.items ++ flat_map digits_of_word l.words
      ≡ flat_map digits_of_word l.initial.words;
  unchanged : l.unchanged.items ++ spaced l.words ≡ spaced l.initial.words;
}

abbrev pub decreases-loop-word : goal.decreases-loop-word
decreases-loop-word l = length l.words
