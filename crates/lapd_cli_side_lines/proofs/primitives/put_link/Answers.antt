use Rattle.std.proofs.Common.{rules}
use Rattle.lapd_cli_side_lines.proofs.primitives.put_link.Goals as goal

pub returns : goal.returns
returns c = search rules
