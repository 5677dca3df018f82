use Rattle.std.proofs.Common.{rules}
use Rattle.lapd_cli_answer.proofs.answerer.AnswererCommand.run.Goals as goal

pub returns-in-Some : goal.returns-in-Some
returns-in-Some g c = search rules
