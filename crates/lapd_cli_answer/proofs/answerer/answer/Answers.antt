use Rattle.std.proofs.Common.{rules}
use Rattle.lapd_cli_answer.proofs.answerer.answer.Goals as goal

pub returns : goal.returns
returns g c = search rules
