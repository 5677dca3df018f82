use Rattle.std.proofs.Common.{rules}
use Rattle.lapd_cli_render.proofs.packet.put_moment.Goals as goal

pub returns-in-None : goal.returns-in-None
returns-in-None c = search rules
