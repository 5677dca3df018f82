use Rattle.std.proofs.Common.{arith}
use Rattle.std.proofs.lemmas.Str.Pattern.{split_parts}
use Rattle.lapd_cli_live_text.proofs.Cuts.{cut_word}
use Rattle.lapd_cli_live_text.proofs.line_objects.cut_at_equals.Goals as goal

pub returns : goal.returns
returns c =
    cut_word c.args.word.now c.split_once.result
    (split_parts 61 c.args.word.now c.split_once.result c.split_once.ensures.cases (omega arith))
