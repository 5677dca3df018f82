use Rattle.lapd_link_definition.proofs.PreservedByStep.{step_preserves_parameters}
use Rattle.lapd_link_definition.proofs.laws.parameters_stay.Goals as goal

pub returns : goal.returns
returns c = step_preserves_parameters
