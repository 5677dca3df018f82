use Rattle.std.proofs.Common.{rules}
use Rattle.lapd_cli_render.proofs.lines.put_words.Goals as goal

pub returns-in-Some : goal.returns-in-Some
returns-in-Some c = search rules
