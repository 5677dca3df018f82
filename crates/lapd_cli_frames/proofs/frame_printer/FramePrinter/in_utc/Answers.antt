use Rattle.std.proofs.Common.{◌≡◌, IfOk, subst}
use Rattle.lapd_zone.specs.Zone.{ZoneTable}
use Rattle.lapd_cli_frames.specs.Frames.{Printing, in_zone, new_printing}
use Rattle.lapd_cli_frames.proofs.frame_printer.FramePrinter.in_utc.Goals as goal

pub returns : goal.returns
returns c = subst (λ (z : ZoneTable). IfOk c.new.result (λ (printer : Printing). printer
    ≡ in_zone z (new_printing c.args.origin c.args.how c.args.follow))) c.utc.ensures c.new.ensures
