use Rattle.lapd_two_side_laws.proofs.EndAnswers.{request_is_answered}
use Rattle.lapd_two_side_laws.proofs.answers.every_end_answers.Goals as goal

pub returns : goal.returns
returns c = request_is_answered
