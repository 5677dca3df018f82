use Rattle.std.proofs.Common.{IfSome, None, subst}
use Rattle.lapd_cli_script.specs.Script.{lines_of}
use Rattle.lapd_cli_frames.specs.Frames.{Printing}
use Rattle.lapd_cli_decode.specs.PrintedLines.{LinesEnd, PrintingLines}
use Rattle.lapd_cli_decode.proofs.printed_lines.print_lines.Goals as goal

pub returns-in-Ok : goal.returns-in-Ok
returns-in-Ok g c =
    let begun : Printing → PrintingLines =
    λ p. record {
      form = c.args.how.form;
      keeps_going = c.args.how.keeps_going;
      shown = None;
      time = None;
      printing = p;
    } in
    subst (λ (p : Printing). IfSome (g.R.Read.remaining c.args.script.now)
    (λ octets. LinesEnd (begun p) c.print_to_end-ended.result (lines_of octets)
    (g.W.Write.contents c.args.out.now)
    (g.W.Write.contents c.print_to_end-ended.new.out)))
    c.in-Ok.ensures
    c.print_to_end-ended.ensures
