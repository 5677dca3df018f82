use Rattle.lapd_link_definition.proofs.StepOnTags.{step_on_tags}
use Rattle.lapd_link_definition.proofs.laws.tags_decide.Goals as goal

pub returns : goal.returns
returns c = step_on_tags
