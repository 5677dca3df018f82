use Rattle.lapd_program_laws.proofs.SafeRuns.{right_in_print}
use Rattle.lapd_program_laws.proofs.laws.joined_runs_are_right.Goals as goal

pub returns : goal.returns
returns c = right_in_print
