use Rattle.lapd_program_laws.proofs.AnswerLines.{reports_steps}
use Rattle.lapd_program_laws.proofs.answer_lines.reason_of_answer.Goals as goal

pub returns : goal.returns
returns c = reports_steps c.reason.result c.args.line.now c.reason.ensures
