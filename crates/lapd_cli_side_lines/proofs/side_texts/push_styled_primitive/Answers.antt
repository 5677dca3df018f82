use Rattle.std.proofs.Common.{rules}
use Rattle.lapd_cli_side_lines.proofs.side_texts.push_styled_primitive.Goals as goal

pub returns-in-Text : goal.returns-in-Text
returns-in-Text c = search rules
