use Rattle.std.proofs.Common.{rules}
use Rattle.lapd_cli_link_commands.proofs.crossing.cross.Goals as goal

pub returns-then-eq-clause-ok : goal.returns-then-eq-clause-ok
returns-then-eq-clause-ok g c = search rules
