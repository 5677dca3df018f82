use Rattle.lapd_table.proofs.Runs.{as_alone}
use Rattle.lapd_table.proofs.laws.link_is_as_it_is_alone.Goals as goal

pub returns : goal.returns
returns c = as_alone
