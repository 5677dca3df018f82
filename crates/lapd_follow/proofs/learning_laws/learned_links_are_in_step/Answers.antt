use Rattle.lapd_follow.proofs.TwoDirections.{frame_teaches, learned_is_in_step}
use Rattle.lapd_follow.proofs.learning_laws.learned_links_are_in_step.Goals as goal

pub returns-clause-learns : goal.returns-clause-learns
returns-clause-learns c = frame_teaches

pub returns-clause-knows : goal.returns-clause-knows
returns-clause-knows c = learned_is_in_step
