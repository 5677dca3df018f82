use Rattle.std.proofs.Common.{◌≡◌, ◌∷◌, [], ◌++◌, Ok, Err, ap, sym, ◌∙◌, arith}
use Rattle.std.proofs.KnownBytes.{Keeps-refl}
use Rattle.std.proofs.lemmas.Bool.Decides.{nat_tests}
use Rattle.std.proofs.lemmas.List.{nil_from_length}
use Rattle.lapd_cli_script.specs.WalkState.{walk_lines}
use Rattle.lapd_cli_script.proofs.Walks.{whole_done, fails_after, memory_after, Walk-none}
use Rattle.lapd_cli_script.proofs.script.walk_whole.Goals as goal

pub returns-then-is_empty-clause-ended : goal.returns-then-is_empty-clause-ended
returns-then-is_empty-clause-ended g c = λ s left after h.
    let none : c.args.cut.now.items ≡ [] =
    nil_from_length c.args.cut.now.items (grind (arith, nat_tests)) in
    whole_done g.C.Command.represents g.C.Command.step s c.walk_line.result c.args.cut.now.items
    c.args.line.now c.args.line.now left after c.walk_line.new.command c.args.number.now
    c.walk_line.new.number (g.W.Write.contents c.args.out.now)
    (g.W.Write.contents c.walk_line.new.out)
    (ap (λ x. x ++ c.args.line.now) (sym none)) c.requires.cut_no_feed c.requires.line_no_feed
    (c.walk_line.ensures.ended s (walk_lines (left ++ after)) h)

pub returns-in_err-append-clause-ended : goal.returns-in_err-append-clause-ended
returns-in_err-append-clause-ended g c = λ s left after h.
    let lines = walk_lines (c.args.cut.now.items ++ (c.args.line.now ++ 10 ∷ left) ++ after) in
    let a = g.W.Write.contents c.args.out.now in
    memory_after g.C.Command.represents g.C.Command.step s s c.from_residual.result
    c.in_err-append.field-0.0 lines lines (walk_lines (left ++ after)) c.args.command.now
    c.args.number.now c.args.number.now c.args.number.now a a
    c.from_residual.ensures.1 c.in_err-append.ensures.err
    (Walk-none g.C.Command.step s lines c.args.number.now a a (Keeps-refl a))

pub returns-in_err-walk_line-clause-ended : goal.returns-in_err-walk_line-clause-ended
returns-in_err-walk_line-clause-ended g c = λ s left after h.
    let lines = walk_lines (c.args.cut.now.items ++ (c.args.line.now ++ 10 ∷ left) ++ after) in
    let last = walk_lines (left ++ after) in
    let n = c.args.number.now in
    let a = g.W.Write.contents c.args.out.now in
    let b = g.W.Write.contents c.walk_line-2.new.out in
    let fault = c.in_err-walk_line.field-0.0 in
    fails_after g.C.Command.represents g.C.Command.step s s c.from_residual-in_err-walk_line.result
    fault lines lines last last c.walk_line-2.new.command n n c.walk_line-2.new.number
    c.walk_line-2.new.number a a b
    c.from_residual-in_err-walk_line.ensures.1
    (Walk-none g.C.Command.step s lines n a a (Keeps-refl a))
    (whole_done g.C.Command.represents g.C.Command.step s (Err fault) c.args.cut.now.items
    c.args.line.now c.as_slice.result.now left after c.walk_line-2.new.command n
    c.walk_line-2.new.number a b
    (c.as_slice.ensures.value ∙ c.in_ok-append.ensures.ok) c.requires.cut_no_feed
    c.requires.line_no_feed (c.in_err-walk_line.ensures.ended s last h))

pub returns-clause-ended : goal.returns-clause-ended
returns-clause-ended g c = λ s left after h.
    whole_done g.C.Command.represents g.C.Command.step s (Ok tt) c.args.cut.now.items
    c.args.line.now c.as_slice.result.now left after c.walk_line-2.new.command c.args.number.now
    c.walk_line-2.new.number (g.W.Write.contents c.args.out.now)
    (g.W.Write.contents c.walk_line-2.new.out)
    (c.as_slice.ensures.value ∙ c.in_ok-append.ensures.ok) c.requires.cut_no_feed
    c.requires.line_no_feed (c.in_ok-walk_line.ensures.ended s (walk_lines (left ++ after)) h)
