use Rattle.lapd_recovery_laws.proofs.Wanted.{every_wanted_line_comes_up}
use Rattle.lapd_recovery_laws.proofs.recovery.every_wanted_line_comes_up.Goals as goal

pub returns : goal.returns
returns c = every_wanted_line_comes_up
