use Rattle.lapd_recovery_laws.proofs.LoneLine.{every_lone_line_comes_up}
use Rattle.lapd_recovery_laws.proofs.recovery.every_lone_line_comes_up.Goals as goal

pub returns : goal.returns
returns c = every_lone_line_comes_up
