use Rattle.std.proofs.Common.{rules}
use Rattle.lapd_cli_link_commands.proofs.bus_moves.receive.Goals as goal

pub returns : goal.returns
returns c = search rules
