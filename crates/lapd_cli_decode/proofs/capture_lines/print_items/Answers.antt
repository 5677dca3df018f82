use Rattle.std.proofs.Common.{sym, ◌∙◌}
use Rattle.lapd_cli_decode.specs.Captured.{place_of}
use Rattle.lapd_cli_decode.proofs.Printed.{PrintsTo-step, ItemsEnd-complete, ItemsEnd-done, ItemsEnd-from, ItemsEnd-passed}
use Rattle.lapd_cli_decode.proofs.capture_lines.print_items.Goals as goal

pub loop-step-preserved : goal.loop-step-preserved
loop-step-preserved g c = λ left e.
    let p = c.loop-step.invariant left e in
    let step = rw c.if-branch.false at c.in_ok-print_next.ensures in
    let s = step p.0 p.1 in (
      s.0,
      s.1,
      PrintsTo-step c.args.how (place_of c.args.capture.now left c.args.printer.now)
          (place_of c.loop-step.capture p.0 c.loop-step.printer)
          (place_of c.print_next.new.capture s.0 c.print_next.new.printer)
          (g.W.Write.contents c.args.out.now) (g.W.Write.contents c.loop-step.out)
          (g.W.Write.contents c.print_next.new.out) p.2
          (sym c.is_complete.ensures ∙ c.if-is_complete.false) s.2,
    )

pub returns-then-branch : goal.returns-then-branch
returns-then-branch g c = λ left e.
    let p = c.loop-step.invariant left e in
    let step = rw c.if-branch.true at c.in_ok-print_next.ensures in
    let s = step p.0 p.1 in
    ItemsEnd-done c.args.how (place_of c.args.capture.now left c.args.printer.now)
    (place_of c.loop-step.capture p.0 c.loop-step.printer)
    (place_of c.print_next.new.capture s.0 c.print_next.new.printer)
    (g.W.Write.contents c.args.out.now) (g.W.Write.contents c.loop-step.out)
    (g.W.Write.contents c.print_next.new.out) p.2 s.2

pub returns-in_err-print_next : goal.returns-in_err-print_next
returns-in_err-print_next g c = λ left e.
    let p = c.loop-step.invariant left e in
    ItemsEnd-passed c.args.how (place_of c.args.capture.now left c.args.printer.now)
    c.from_residual.result c.in_err-print_next.field-0.0 c.print_next.new.printer
    (g.W.Write.contents c.args.out.now) (g.W.Write.contents c.print_next.new.out)
    c.from_residual.ensures.1
    (ItemsEnd-from g.R.Read.remaining c.args.how
    (place_of c.args.capture.now left c.args.printer.now)
    (place_of c.loop-step.capture p.0 c.loop-step.printer) c.print_next.new.capture
    c.print_next.new.printer
    (g.W.Write.contents c.args.out.now) (g.W.Write.contents c.loop-step.out)
    (g.W.Write.contents c.print_next.new.out) c.in_err-print_next.field-0.0 p.2
    (sym c.is_complete.ensures ∙ c.if-is_complete.false) (c.in_err-print_next.ensures p.0 p.1))

pub returns-then-is_complete : goal.returns-then-is_complete
returns-then-is_complete g c = λ left e.
    let p = c.loop-step.invariant left e in
    ItemsEnd-complete c.args.how (place_of c.args.capture.now left c.args.printer.now)
    (place_of c.loop-step.capture p.0 c.loop-step.printer)
    (g.W.Write.contents c.args.out.now) (g.W.Write.contents c.loop-step.out) p.2
    (sym c.is_complete.ensures ∙ c.if-is_complete.true)
