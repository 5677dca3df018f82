use Rattle.lapd_capture.specs.Reader.{reading_of}
use Rattle.lapd_cli_decode.proofs.Printed.{state_behind_missing, text_behind_missing}
use Rattle.lapd_cli_decode.proofs.capture_lines.print_frame.Goals as goal

pub returns-clause-line : goal.returns-clause-line
returns-clause-line g c = λ left.
    text_behind_missing c.args.how (reading_of c.args.capture.now left) c.args.frame
    c.missing-total.result c.args.printer.now c.print_missing.new.printer
    (g.W.Write.contents c.args.out.now) (g.W.Write.contents c.print_missing.new.out)
    (g.W.Write.contents c.print_found.new.out)
    c.missing-total.ensures c.in_ok-print_missing.ensures.after c.in_ok-print_missing.ensures.line
    (c.in_ok-print_found.ensures.line left)

pub returns-clause-after : goal.returns-clause-after
returns-clause-after g c = λ left.
    state_behind_missing c.args.how (reading_of c.args.capture.now left) c.args.frame
    c.missing-total.result c.args.printer.now c.print_missing.new.printer c.print_found.new.printer
    c.missing-total.ensures c.in_ok-print_missing.ensures.after (c.in_ok-print_found.ensures.after left)
