use Rattle.lapd_recovery_laws.proofs.RunsEmpty.{every_line_runs_empty}
use Rattle.lapd_recovery_laws.proofs.recovery.every_line_runs_empty.Goals as goal

pub returns : goal.returns
returns c = every_line_runs_empty
