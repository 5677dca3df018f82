use Rattle.std.proofs.Common.{◌≡◌, ◌++◌, length}
use Rattle.lapd_cli_console.specs.Tidied.{digits_of_word}
use Rattle.lapd_cli_console.proofs.typed_line.push_digits.Given as goal

abbrev pub invariant-loop-part : goal.invariant-loop-part
invariant-loop-part l =
    l.digits.items ++ digits_of_word l.rest ≡ l.initial.digits.items
    ++ digits_of_word l.initial.rest

abbrev pub decreases-loop-part : goal.decreases-loop-part
decreases-loop-part l = length l.rest
