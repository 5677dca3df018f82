use Rattle.std.proofs.Common.{rules}
use Rattle.lapd_timers.proofs.timer_set.TimerSet.start.Goals as goal

pub returns : goal.returns
returns c = search rules
