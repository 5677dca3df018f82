use Rattle.lapd_program_laws.proofs.UnorderedRuns.{wrong_runs}
use Rattle.lapd_program_laws.proofs.laws.order_is_needed.Goals as goal

pub returns : goal.returns
returns c = wrong_runs
