use Rattle.lapd_program_laws.proofs.WorkedRuns.{premises_met}
use Rattle.lapd_program_laws.proofs.laws.worked_runs_meet_premises.Goals as goal

pub returns : goal.returns
returns c = premises_met
