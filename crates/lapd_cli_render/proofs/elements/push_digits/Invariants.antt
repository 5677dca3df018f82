use Rattle.std.proofs.Common.{◌≡◌, ◌++◌, map, take}
use Rattle.std.specs.String.{string_bytes}
use Rattle.lapd_cli_render.specs.Elements.{shown_digit}
use Rattle.lapd_cli_render.proofs.elements.push_digits.Given as goal

abbrev pub invariant-loop-digit : goal.invariant-loop-digit
invariant-loop-digit l =
    string_bytes l.text ≡ string_bytes l.initial.text
    ++ map shown_digit (take l.digit-index l.digits)
