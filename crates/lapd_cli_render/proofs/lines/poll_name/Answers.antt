use Rattle.std.proofs.Common.{rules}
use Rattle.lapd_cli_render.proofs.lines.poll_name.Goals as goal

pub returns-in-Answer : goal.returns-in-Answer
returns-in-Answer c = search rules
