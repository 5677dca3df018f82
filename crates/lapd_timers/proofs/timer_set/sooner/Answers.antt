use Rattle.std.proofs.Common.{rules}
use Rattle.lapd_timers.proofs.timer_set.sooner.Goals as goal

pub returns-in-Some-default : goal.returns-in-Some-default
returns-in-Some-default c = search rules

pub returns-in-Some-Some : goal.returns-in-Some-Some
returns-in-Some-Some c = search rules

pub returns-in-Some-default-2 : goal.returns-in-Some-default-2
returns-in-Some-default-2 c = search rules
