use Rattle.lapd_cli_console.proofs.KeptLines.{line_of_script}
use Rattle.lapd_cli_console.proofs.laws.lines_have_the_numbers_of_a_script.Goals as goal

pub returns : goal.returns
returns c = line_of_script
