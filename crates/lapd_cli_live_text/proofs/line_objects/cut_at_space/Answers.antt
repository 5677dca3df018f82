use Rattle.std.proofs.Common.{arith}
use Rattle.std.proofs.lemmas.Str.Pattern.{split_parts}
use Rattle.lapd_cli_live_text.proofs.Cuts.{cut_words}
use Rattle.lapd_cli_live_text.proofs.line_objects.cut_at_space.Goals as goal

pub returns-clause-words : goal.returns-clause-words
returns-clause-words c =
    cut_words c.args.line.now c.split_once.result
    (split_parts 32 c.args.line.now c.split_once.result c.split_once.ensures.cases (omega arith))
