use Rattle.std.proofs.Common.{arith, append_assoc}
use Rattle.std.proofs.lemmas.Grind.{common_steps}
use Rattle.lapd_cli_link_commands.proofs.NotedLines.{notes_cut}
use Rattle.lapd_cli_link_commands.proofs.notes.push_notes.Goals as goal

pub loop-line-preserved : goal.loop-line-preserved
loop-line-preserved c =
    let e =
    notes_cut c.loop-line.rest.now c.in-Some.line.now c.in-Some.behind.now
    c.in-Some.ensures.found.1 c.in-Some.ensures.found.0 in
    let i = c.loop-line.invariant in
    grind (arith, common_steps, append_assoc)
