use Rattle.std.proofs.Common.{arith, append_assoc}
use Rattle.std.proofs.lemmas.Grind.{common_steps}
use Rattle.lapd_cli_decode.proofs.LooseLine.{digits_cut}
use Rattle.lapd_cli_decode.proofs.loose.push_digits.Goals as goal

pub loop-part-preserved : goal.loop-part-preserved
loop-part-preserved c =
    let e =
    digits_cut c.loop-part.rest.now c.in-Some.part.now c.in-Some.behind.now
    c.in-Some.ensures.parts in
    let i = c.loop-part.invariant in
    grind (arith, common_steps, append_assoc)
