use Rattle.std.proofs.Common.{rules}
use Rattle.lapd_cli_render.proofs.members.text_line.Goals as goal

pub returns : goal.returns
returns c = search rules
