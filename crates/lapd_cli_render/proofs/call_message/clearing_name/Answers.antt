use Rattle.std.proofs.Common.{rules}
use Rattle.lapd_cli_render.proofs.call_message.clearing_name.Goals as goal

pub returns-in-77 : goal.returns-in-77
returns-in-77 c = search rules
