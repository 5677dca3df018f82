use Rattle.lapd_recovery_laws.proofs.InTime.{every_world_comes_back_in_time}
use Rattle.lapd_recovery_laws.proofs.recovery.every_world_comes_back_in_time.Goals as goal

pub returns : goal.returns
returns c = every_world_comes_back_in_time
