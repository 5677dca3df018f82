use Rattle.std.proofs.Common.{rules}
use Rattle.lapd_cli_values.proofs.number_option.NumberOption.takes.Goals as goal

pub returns-then-self-number : goal.returns-then-self-number
returns-then-self-number c = search rules

pub returns-else-self-number : goal.returns-else-self-number
returns-else-self-number c = search rules
