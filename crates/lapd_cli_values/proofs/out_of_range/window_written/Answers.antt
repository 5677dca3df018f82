use Rattle.std.proofs.Common.{rules}
use Rattle.lapd_cli_values.proofs.out_of_range.window_written.Goals as goal

pub returns-in-Ok : goal.returns-in-Ok
returns-in-Ok c = search rules

pub returns-in-Err : goal.returns-in-Err
returns-in-Err c = search rules
