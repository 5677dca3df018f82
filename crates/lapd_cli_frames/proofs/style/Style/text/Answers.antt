use Rattle.std.proofs.Common.{rules}
use Rattle.lapd_cli_frames.proofs.style.Style.text.Goals as goal

pub returns-in-NamedJson : goal.returns-in-NamedJson
returns-in-NamedJson c = search rules
