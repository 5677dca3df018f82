use Rattle.std.proofs.Common.{◌≡◌, ◌++◌, take}
use Rattle.std.specs.String.{string_bytes}
use Rattle.lapd_cli_side_lines.specs.SideTexts.{primitives_text}
use Rattle.lapd_cli_side_lines.proofs.side_texts.push_primitives.Given as goal

abbrev pub invariant-loop-primitive : goal.invariant-loop-primitive
invariant-loop-primitive l =
    string_bytes l.text ≡ string_bytes l.initial.text
    ++ primitives_text l.fn.style (take l.primitive-index l.primitives)
