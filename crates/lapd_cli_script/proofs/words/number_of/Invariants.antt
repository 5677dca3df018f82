use Rattle.std.proofs.Common.{◌≡◌, ◌<◌, ◌^◌, drop, option_and_then}
use Rattle.lapd_cli_script.specs.Line.{below_2_64, digits_behind}
use Rattle.lapd_cli_script.proofs.words.number_of.Given as goal

abbrev pub invariant-loop-digit : goal.invariant-loop-digit
invariant-loop-digit l =
    (l.number < 2 ^ 64)
    × (option_and_then below_2_64 (digits_behind l.number (drop l.digit-index l.digits))
    ≡ option_and_then below_2_64 (digits_behind 0 l.digits))
