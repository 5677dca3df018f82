use Rattle.lapd_link_definition.proofs.PreservedByStep.{step_is_well_formed, step_is_short}
use Rattle.lapd_link_definition.proofs.laws.sent_frames_are_in_the_grammar.Goals as goal

pub returns : goal.returns
returns c = record { sent = step_is_well_formed; short = step_is_short }
