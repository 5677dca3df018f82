use Rattle.lapd_link_definition.proofs.InputsThatCount.{begun_by_step, begun_by_no_step}
use Rattle.lapd_link_definition.proofs.laws.establishments_are_counted.Goals as goal

pub returns : goal.returns
returns c = record { begun = begun_by_step; none = begun_by_no_step }
