use Rattle.std.proofs.Common.{Some, subst}
use Rattle.lapd_capture.specs.Reader.{reading_of}
use Rattle.lapd_zone.specs.Zone.{ZoneTable}
use Rattle.lapd_cli_decode.specs.Captured.{CaptureEnds, begins_in}
use Rattle.lapd_cli_decode.proofs.capture_lines.follow_capture.Goals as goal

pub returns : goal.returns
returns g c = λ left e. subst (λ (z : ZoneTable). CaptureEnds c.args.how
    (begins_in z c.args.how (Some c.args.follow) (reading_of c.args.capture.now left))
    c.decode_capture_in.result (g.W.Write.contents c.args.out.now)
    (g.W.Write.contents c.decode_capture_in.new.out))
    c.utc.ensures
    (c.decode_capture_in.ensures left e)
