-- The state that a printer of lines represents.
use Rattle.lapd_cli_decode.specs.declared.printed_lines.PrintedLines.{PrintedLines}
use Rattle.lapd_cli_decode.specs.PrintedLines.{PrintingLines}

abbrev pub printing_of : {E : Type 0} → PrintedLines E → PrintingLines
printing_of lines = record {
  form = lines.form;
  keeps_going = lines.keeps_going;
  shown = lines.shown;
  time = lines.time;
  printing = lines.printer;
}
