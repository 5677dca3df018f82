use Rattle.std.proofs.Common.{rules}
use Rattle.lapd_cli_render.proofs.call_message.reference_of.Goals as goal

pub returns : goal.returns
returns c = search rules
