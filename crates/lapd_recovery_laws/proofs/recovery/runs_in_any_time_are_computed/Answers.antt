use Rattle.lapd_recovery_laws.proofs.WorkedInTime.{t200s_beside_frames_few, early_t203s_count, in_time}
use Rattle.lapd_recovery_laws.proofs.recovery.runs_in_any_time_are_computed.Goals as goal

pub returns : goal.returns
returns c = record {
  t200s = t200s_beside_frames_few;
  t203s = early_t203s_count;
  in_time = in_time;
}
