use Rattle.std.proofs.Common.{Err, subst, sym}
use Rattle.lapd_cli_decode.proofs.Printed.{item_frame, item_stopped, item_fault}
use Rattle.lapd_cli_decode.specs.Captured.{StepsFrom, place_of}
use Rattle.lapd_cli_decode.specs.declared.capture_lines.CaptureStop.TheVariants.{Capture}
use Rattle.lapd_cli_decode.proofs.capture_lines.print_item.Goals as goal

pub returns-in_ok-print_frame-in-Ok-Frame : goal.returns-in_ok-print_frame-in-Ok-Frame
returns-in_ok-print_frame-in-Ok-Frame g c = λ left e.
    item_frame g.R.Read.remaining c.args.how c.args.capture.now c.next.new.self left
    c.args.printer.now c.print_frame.new.printer c.in-Ok-Frame.frame
    (g.W.Write.contents c.args.out.now) (g.W.Write.contents c.print_frame.new.out)
    ((rw c.in-Ok-Frame.field-0-is at c.in-Ok-Frame.ensures.step) left e)
    c.in_ok-print_frame-in-Ok-Frame.ensures.line
    c.in_ok-print_frame-in-Ok-Frame.ensures.after

pub returns-then-not-how : goal.returns-then-not-how
returns-then-not-how g c = λ left e.
    item_stopped g.R.Read.remaining c.args.how c.args.capture.now c.next.new.self left
    c.args.printer.now c.args.printer.now c.in-Ok-Unreadable.fault c.place-place.result
    (g.W.Write.contents c.args.out.now)
    ((rw c.in-Ok-Unreadable.field-0-is at c.in-Ok-Unreadable.ensures.step) left e)
    c.place-place.ensures

pub returns-in-Err-Capture : goal.returns-in-Err-Capture
returns-in-Err-Capture g c = λ left e.
    subst (λ f. StepsFrom g.R.Read.remaining c.args.how (Err (Capture f c.place-place.result))
    (place_of c.args.capture.now left c.args.printer.now) c.next.new.self c.args.printer.now
    (g.W.Write.contents c.args.out.now) (g.W.Write.contents c.args.out.now))
    (sym c.in-Err-Capture.fault-is)
    (item_fault g.R.Read.remaining c.args.how c.args.capture.now c.next.new.self left
    c.args.printer.now c.args.printer.now c.in-Err-Capture.fault c.place-place.result
    (g.W.Write.contents c.args.out.now)
    ((rw c.in-Err-Capture.field-0-is at c.in-Err-Capture.ensures.step) left e)
    c.place-place.ensures)
