use Rattle.std.proofs.Common.{arith}
use Rattle.std.proofs.lemmas.Grind.{common_steps}
use Rattle.lapd_trace.proofs.FrameLines.{line_of_spelling}
use Rattle.lapd_trace.proofs.trace.line_of.Goals as goal

pub returns-clause-spelled : goal.returns-clause-spelled
returns-clause-spelled c =
    λ grammar. let same =
    line_of_spelling c.args.from c.args.frame.now grammar.content in grind
    (arith, common_steps, same)
