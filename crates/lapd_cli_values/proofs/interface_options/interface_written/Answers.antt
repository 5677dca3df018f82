use Rattle.std.proofs.Common.{rules}
use Rattle.lapd_cli_values.proofs.interface_options.interface_written.Goals as goal

pub returns-after-not-options : goal.returns-after-not-options
returns-after-not-options c = search rules
