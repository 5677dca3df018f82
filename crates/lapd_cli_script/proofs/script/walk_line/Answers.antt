use Rattle.std.proofs.Common.{◌+◌, ◌∷◌, sym, ◌∙◌}
use Rattle.lapd_cli_script.specs.WalkState.{without_comment}
use Rattle.lapd_cli_script.proofs.Walks.{line_passed, line_done, line_bad, memory_out}
use Rattle.lapd_cli_script.proofs.script.walk_line.Goals as goal

pub returns-then-is_passed_over-clause-ended : goal.returns-then-is_passed_over-clause-ended
returns-then-is_passed_over-clause-ended g c = λ s more h.
    line_passed g.C.Command.represents g.C.Command.step s c.args.line.now more c.args.command.now
    c.args.number.now (g.W.Write.contents c.args.out.now)
    (sym c.is_passed_over.ensures ∙ c.if-is_passed_over.true) h

pub returns-in-Ok-clause-ended : goal.returns-in-Ok-clause-ended
returns-in-Ok-clause-ended g c = λ s more h.
    line_done g.C.Command.represents g.C.Command.step s c.args.line.now more c.run.new.self
    c.args.number.now (g.W.Write.contents c.args.out.now) (g.W.Write.contents c.run.new.out)
    (sym c.is_passed_over.ensures ∙ c.if-is_passed_over.false) (c.in-Ok.ensures s h)

pub returns-in-Err-Bad-clause-ended : goal.returns-in-Err-Bad-clause-ended
returns-in-Err-Bad-clause-ended g c = λ s more h.
    line_bad g.C.Command.represents g.C.Command.step s c.args.line.now more c.run.new.self
    c.args.number.now (g.W.Write.contents c.args.out.now) (g.W.Write.contents c.run.new.out)
    (sym c.is_passed_over.ensures ∙ c.if-is_passed_over.false)
    ((rw c.in-Err-Bad.field-0-is at c.in-Err-Bad.ensures) s h)

pub returns-in-Err-Memory-clause-ended : goal.returns-in-Err-Memory-clause-ended
returns-in-Err-Memory-clause-ended g c = λ s more h.
    memory_out g.C.Command.represents g.C.Command.step s (without_comment c.args.line.now ∷ more)
    more c.run.new.self c.args.number.now (c.args.number.now + 1)
    (g.W.Write.contents c.args.out.now) (g.W.Write.contents c.run.new.out)
    ((rw c.in-Err-Memory.field-0-is at c.in-Err-Memory.ensures) s h)
