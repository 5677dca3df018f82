use Rattle.std.proofs.Common.{rules}
use Rattle.lapd_cli_render.proofs.names.push_frame.Goals as goal

pub returns-in-Ui : goal.returns-in-Ui
returns-in-Ui c = search rules
