use Rattle.lapd_bus_restart_laws.proofs.BehindAcross.{right_behind_across}
use Rattle.lapd_bus_restart_laws.proofs.old_frames.every_holding_is_safe_behind_old_frames_across_restarts.Goals as goal

pub returns : goal.returns
returns c = record { right = right_behind_across }
