use Rattle.lapd_timers.proofs.Least.{one_due}
use Rattle.lapd_timers.proofs.laws.one_is_due.Goals as goal

pub returns : goal.returns
returns c = one_due
