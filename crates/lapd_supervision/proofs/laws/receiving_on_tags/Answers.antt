use Rattle.lapd_supervision.proofs.Tagging.{is_accepted_on_tags, after_i_frame_on_tags, i_frame_response_on_tags}
use Rattle.lapd_supervision.proofs.laws.receiving_on_tags.Goals as goal

pub returns-clause-accepted : goal.returns-clause-accepted
returns-clause-accepted c = is_accepted_on_tags

pub returns-clause-variables : goal.returns-clause-variables
returns-clause-variables c = after_i_frame_on_tags

pub returns-clause-answer : goal.returns-clause-answer
returns-clause-answer c = i_frame_response_on_tags
