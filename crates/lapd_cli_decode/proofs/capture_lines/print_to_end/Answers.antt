use Rattle.lapd_cli_decode.proofs.Closed.{capture_closed, capture_stopped}
use Rattle.lapd_cli_decode.specs.Captured.{place_of}
use Rattle.lapd_cli_decode.proofs.capture_lines.print_to_end.Goals as goal

pub returns-in-Ok : goal.returns-in-Ok
returns-in-Ok g c = λ left e.
    capture_closed c.args.how (place_of c.args.capture.now left c.args.printer.now)
    c.print_items.new.printer c.close.result _ _ _ (c.in-Ok.ensures left e) c.close.ensures

pub returns-in-Err : goal.returns-in-Err
returns-in-Err g c = λ left e.
    capture_stopped c.args.how (place_of c.args.capture.now left c.args.printer.now)
    c.print_items.new.printer c.in-Err.stop _ _ (c.in-Err.ensures left e)
