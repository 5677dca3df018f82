use Rattle.std.proofs.Common.{rules}
use Rattle.lapd_cli_answer.proofs.answerer.Answerer.word.Goals as goal

pub returns-then-is_word-6 : goal.returns-then-is_word-6
returns-then-is_word-6 g c = search rules
