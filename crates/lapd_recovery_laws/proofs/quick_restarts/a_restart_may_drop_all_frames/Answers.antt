use Rattle.lapd_recovery_laws.proofs.LostAtRestart.{restart_may_drop}
use Rattle.lapd_recovery_laws.proofs.quick_restarts.a_restart_may_drop_all_frames.Goals as goal

pub returns : goal.returns
returns c = restart_may_drop
