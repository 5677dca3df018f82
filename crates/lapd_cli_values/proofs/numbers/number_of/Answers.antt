use Rattle.std.proofs.Common.{rules}
use Rattle.lapd_cli_values.proofs.numbers.number_of.Goals as goal

pub returns : goal.returns
returns c = search rules
