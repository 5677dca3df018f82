use Rattle.std.proofs.Common.{rules}
use Rattle.lapd_cli_link_commands.proofs.bus_lines.put_terminal_out.Goals as goal

pub returns-in-Send-clause-ok : goal.returns-in-Send-clause-ok
returns-in-Send-clause-ok g c = search rules
