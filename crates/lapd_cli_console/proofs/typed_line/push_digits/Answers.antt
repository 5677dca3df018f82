use Rattle.std.proofs.Common.{arith, append_assoc}
use Rattle.std.proofs.lemmas.Grind.{common_steps}
use Rattle.lapd_cli_console.proofs.TypedLine.{digits_cut}
use Rattle.lapd_cli_console.proofs.typed_line.push_digits.Goals as goal

pub loop-part-preserved : goal.loop-part-preserved
loop-part-preserved c =
    let e =
    digits_cut c.loop-part.rest.now c.in-Some.part.now c.in-Some.behind.now
    c.in-Some.ensures.parts.1 c.in-Some.ensures.parts.0 in
    let i = c.loop-part.invariant in
    grind (arith, common_steps, append_assoc)
