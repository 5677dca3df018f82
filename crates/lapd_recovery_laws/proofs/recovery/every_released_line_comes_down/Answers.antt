use Rattle.lapd_recovery_laws.proofs.Releases.{every_released_line_comes_down}
use Rattle.lapd_recovery_laws.proofs.recovery.every_released_line_comes_down.Goals as goal

pub returns : goal.returns
returns c = every_released_line_comes_down
