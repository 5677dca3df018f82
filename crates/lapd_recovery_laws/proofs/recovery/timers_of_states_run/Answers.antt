use Rattle.lapd_recovery_laws.proofs.TimersOfRuns.{every_run_has_timers}
use Rattle.lapd_recovery_laws.proofs.recovery.timers_of_states_run.Goals as goal

pub returns : goal.returns
returns c = every_run_has_timers
