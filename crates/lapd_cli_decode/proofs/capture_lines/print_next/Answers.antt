use Rattle.lapd_cli_decode.specs.Captured.{place_of}
use Rattle.lapd_cli_decode.proofs.Printed.{StepsFrom-flushed}
use Rattle.lapd_cli_decode.proofs.capture_lines.print_next.Goals as goal

pub returns : goal.returns
returns g c = λ left e.
    StepsFrom-flushed g.R.Read.remaining c.args.how c.print_item.result
    (place_of c.args.capture.now left c.args.printer.now) c.print_item.new.capture
    c.print_item.new.printer
    (g.W.Write.contents c.args.out.now) (g.W.Write.contents c.flush_before.new.out)
    (g.W.Write.contents c.print_item.new.out)
    c.in_ok-flush_before.ensures.bytes (c.print_item.ensures left e)
