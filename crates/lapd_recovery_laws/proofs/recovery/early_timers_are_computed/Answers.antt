use Rattle.lapd_recovery_laws.proofs.WorkedTimers.{t200_counts, wanted_meanwhile, t203_counts, overtakes, t200_beside_each_counts, idle_polls_count}
use Rattle.lapd_recovery_laws.proofs.recovery.early_timers_are_computed.Goals as goal

pub returns : goal.returns
returns c = record {
  t200_counts = t200_counts;
  wanted_meanwhile = wanted_meanwhile;
  t203_counts = t203_counts;
  overtakes = overtakes;
  t200_beside_each = t200_beside_each_counts;
  idle_polls = idle_polls_count;
}
