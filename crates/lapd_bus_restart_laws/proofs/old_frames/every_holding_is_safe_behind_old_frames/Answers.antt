use Rattle.lapd_bus_restart_laws.proofs.BehindOldFrames.{right_behind_old_frames}
use Rattle.lapd_bus_restart_laws.proofs.old_frames.every_holding_is_safe_behind_old_frames.Goals as goal

pub returns : goal.returns
returns c = record { right = right_behind_old_frames }
