use Rattle.lapd_recovery_laws.proofs.DespiteTimers.{every_world_comes_back_despite_early_timers}
use Rattle.lapd_recovery_laws.proofs.recovery.every_world_comes_back_despite_early_timers.Goals as goal

pub returns : goal.returns
returns c = every_world_comes_back_despite_early_timers
