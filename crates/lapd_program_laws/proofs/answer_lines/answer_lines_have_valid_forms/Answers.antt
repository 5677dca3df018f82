use Rattle.lapd_program_laws.proofs.AnswerLines.{answer_lines}
use Rattle.lapd_program_laws.proofs.answer_lines.answer_lines_have_valid_forms.Goals as goal

pub returns : goal.returns
returns c = answer_lines
