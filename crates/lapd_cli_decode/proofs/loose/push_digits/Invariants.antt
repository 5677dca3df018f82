use Rattle.std.proofs.Common.{◌≡◌, ◌++◌, length}
use Rattle.lapd_cli_decode.specs.Loose.{digits_in}
use Rattle.lapd_cli_decode.proofs.loose.push_digits.Given as goal

abbrev pub invariant-loop-part : goal.invariant-loop-part
invariant-loop-part l =
    l.digits.items ++ digits_in l.rest ≡ l.initial.digits.items ++ digits_in l.initial.rest

abbrev pub decreases-loop-part : goal.decreases-loop-part
decreases-loop-part l = length l.rest
