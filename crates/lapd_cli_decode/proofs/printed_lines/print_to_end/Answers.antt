use Rattle.std.proofs.Common.{refl}
use Rattle.lapd_cli_decode.proofs.Closed.{lines_closed}
use Rattle.lapd_cli_decode.specs.LinesPrinter.{printing_of}
use Rattle.lapd_cli_decode.proofs.printed_lines.print_to_end.Goals as goal

pub returns-in-Ok : goal.returns-in-Ok
returns-in-Ok g c =
    let s = printing_of c.args.lines.now in
    lines_closed _ s (printing_of c.walk.new.command) c.close.result _ _ _
    (c.in-Ok.ensures.ended s refl) (c.in-Ok.ensures.state s refl) c.close.ensures
