use Rattle.lapd_link_definition.proofs.DueOnTags.{due_on_tags}
use Rattle.lapd_link_definition.proofs.ReportsOfStep.{due_is_expected}
use Rattle.lapd_link_definition.proofs.laws.reports_are_expected.Goals as goal

pub returns : goal.returns
returns c = record { expected = due_is_expected; tags = due_on_tags }
