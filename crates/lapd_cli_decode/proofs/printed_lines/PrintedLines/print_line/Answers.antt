use Rattle.std.proofs.Common.{◌≡◌, [], Some, sym, ◌∙◌}
use Rattle.lapd_cli_frames.specs.Frames.{is_complete}
use Rattle.lapd_cli_decode.specs.LinesPrinter.{printing_of}
use Rattle.lapd_cli_decode.specs.PrintedLines.{step_by}
use Rattle.lapd_cli_decode.proofs.Lines.{before_the_last}
use Rattle.lapd_cli_decode.proofs.printed_lines.PrintedLines.print_line.Goals as goal

pub returns-else-is_complete : goal.returns-else-is_complete
returns-else-is_complete g c =
    let s = printing_of c.args.self.now in
    before_the_last (λ lines state. state ≡ printing_of lines) (is_complete s.printing)
    (Some ([], s)) (step_by s.form s c.args.line.now)
    c.print_next.result c.print_next.new.self (g.W.Write.contents c.args.out.now)
    (g.W.Write.contents c.print_next.new.out)
    (sym c.is_complete.ensures ∙ c.if-is_complete.false) c.print_next.ensures
