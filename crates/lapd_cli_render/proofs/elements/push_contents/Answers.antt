use Rattle.std.proofs.Common.{rules}
use Rattle.lapd_cli_render.proofs.elements.push_contents.Goals as goal

pub returns-in-112 : goal.returns-in-112
returns-in-112 c = search rules
