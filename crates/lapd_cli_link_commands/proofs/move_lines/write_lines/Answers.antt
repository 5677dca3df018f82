use Rattle.std.proofs.Common.{rules}
use Rattle.lapd_cli_link_commands.proofs.move_lines.write_lines.Goals as goal

pub loop-given-init : goal.loop-given-init
loop-given-init c = search rules
