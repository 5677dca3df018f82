use Rattle.lapd_recovery_laws.proofs.DespiteLosses.{every_world_comes_back}
use Rattle.lapd_recovery_laws.proofs.recovery.every_world_comes_back.Goals as goal

pub returns : goal.returns
returns c = every_world_comes_back
