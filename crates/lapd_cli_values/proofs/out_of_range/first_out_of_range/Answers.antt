use Rattle.std.proofs.Common.{rules}
use Rattle.lapd_cli_values.proofs.out_of_range.first_out_of_range.Goals as goal

pub returns-then-not-takes-2-clause-named : goal.returns-then-not-takes-2-clause-named
returns-then-not-takes-2-clause-named c = search rules

pub returns-then-not-takes-2-clause-refused : goal.returns-then-not-takes-2-clause-refused
returns-then-not-takes-2-clause-refused c = search rules
