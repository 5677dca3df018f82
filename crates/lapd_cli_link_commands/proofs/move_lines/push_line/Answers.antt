use Rattle.std.proofs.Common.{rules}
use Rattle.lapd_cli_link_commands.proofs.move_lines.push_line.Goals as goal

pub returns-in-Sent-clause-ok : goal.returns-in-Sent-clause-ok
returns-in-Sent-clause-ok c = search rules
