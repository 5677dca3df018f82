use Rattle.std.proofs.Common.{rules}
use Rattle.lapd_cli_values.proofs.interface_options.or_tei_zero.Goals as goal

pub returns : goal.returns
returns c = search rules
