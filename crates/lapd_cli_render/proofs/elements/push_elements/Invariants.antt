use Rattle.std.proofs.Common.{◌≡◌, ◌++◌, length}
use Rattle.std.specs.String.{string_bytes}
use Rattle.lapd_cli_render.specs.Elements.{elements_text}
use Rattle.lapd_cli_render.proofs.elements.push_elements.Given as goal

abbrev pub invariant-loop-element : goal.invariant-loop-element
invariant-loop-element l =
    string_bytes l.text ++ elements_text l.rest ≡ string_bytes l.initial.text
    ++ elements_text l.initial.rest

abbrev pub decreases-loop-element : goal.decreases-loop-element
decreases-loop-element l = length l.rest
