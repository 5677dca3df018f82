use Rattle.std.proofs.Common.{subst}
use Rattle.lapd_capture.specs.Reader.{reading_of}
use Rattle.lapd_cli_decode.specs.Captured.{CaptureEnds, Place}
use Rattle.lapd_cli_frames.specs.Frames.{Printing}
use Rattle.lapd_cli_decode.proofs.capture_lines.decode_capture_in.Goals as goal

pub returns-in-Ok : goal.returns-in-Ok
returns-in-Ok g c = λ left e.
    let place : Printing → Place =
    λ s. record { reading = reading_of c.args.capture.now left; printing = s } in
    subst (λ (s : Printing). CaptureEnds c.args.how (place s) c.print_to_end-ended.result
    (g.W.Write.contents c.args.out.now) (g.W.Write.contents c.print_to_end-ended.new.out))
    c.in-Ok.ensures
    (c.print_to_end-ended.ensures left e)
