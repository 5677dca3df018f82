use Rattle.lapd_pair.proofs.SafePairs.{pair_is_safe}
use Rattle.lapd_pair.proofs.SafeReaders.{readings_are_safe}
use Rattle.lapd_pair.proofs.pair.Pair.apply.Goals as goal

pub returns-in-Ok-clause-ok : goal.returns-in-Ok-clause-ok
returns-in-Ok-clause-ok c = c.in-Ok.ensures.ok

pub returns-in-Ok-clause-reports : goal.returns-in-Ok-clause-reports
returns-in-Ok-clause-reports c = c.in-Ok.ensures.reports

pub returns-in-Ok-clause-safe : goal.returns-in-Ok-clause-safe
returns-in-Ok-clause-safe c = pair_is_safe _

pub returns-in-Err-clause-safe : goal.returns-in-Err-clause-safe
returns-in-Err-clause-safe c = pair_is_safe _

pub returns-in-Ok-clause-readers : goal.returns-in-Ok-clause-readers
returns-in-Ok-clause-readers c = readings_are_safe _

pub returns-in-Err-clause-readers : goal.returns-in-Err-clause-readers
returns-in-Err-clause-readers c = readings_are_safe _
