use Rattle.std.proofs.Common.{rules}
use Rattle.lapd_cli_values.proofs.out_of_range.number_written.Goals as goal

pub returns-in_default : goal.returns-in_default
returns-in_default c = search rules
