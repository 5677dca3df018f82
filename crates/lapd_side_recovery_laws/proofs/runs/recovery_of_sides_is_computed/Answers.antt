use Rattle.lapd_side_recovery_laws.proofs.RunsComputed.{lost_free, polled_agrees, polled_meet, sabme_come, time_computed}
use Rattle.lapd_side_recovery_laws.proofs.runs.recovery_of_sides_is_computed.Goals as goal

pub returns : goal.returns
returns c = record {
  come = sabme_come;
  free = lost_free;
  meets = polled_meet;
  time = time_computed;
  agrees = polled_agrees;
}
