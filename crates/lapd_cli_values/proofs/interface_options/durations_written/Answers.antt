use Rattle.std.proofs.Common.{rules}
use Rattle.lapd_cli_values.proofs.interface_options.durations_written.Goals as goal

pub returns : goal.returns
returns c = search rules
