use Rattle.lapd_pair_laws.proofs.DrainsAfterRuns.{every_quiet_line_drains}
use Rattle.lapd_pair_laws.proofs.quiet_line.every_quiet_line_drains.Goals as goal

pub returns : goal.returns
returns c = every_quiet_line_drains
