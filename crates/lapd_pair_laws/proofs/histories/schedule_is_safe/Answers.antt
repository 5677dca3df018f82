use Rattle.lapd_pair_laws.proofs.Schedules.{ending_safe}
use Rattle.lapd_pair_laws.proofs.histories.schedule_is_safe.Goals as goal

pub returns : goal.returns
returns c = ending_safe
