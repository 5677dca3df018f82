use Rattle.std.proofs.Common.{rules}
use Rattle.lapd_cli_link_commands.proofs.mover.put_recovered.Goals as goal

pub returns-in_ok-writeln-2-clause-ok : goal.returns-in_ok-writeln-2-clause-ok
returns-in_ok-writeln-2-clause-ok g c = search rules
