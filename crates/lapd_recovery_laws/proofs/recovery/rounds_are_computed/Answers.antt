use Rattle.lapd_recovery_laws.proofs.WorkedRounds.{losses_go_round, t203s_go_round, busy_goes_round}
use Rattle.lapd_recovery_laws.proofs.recovery.rounds_are_computed.Goals as goal

pub returns : goal.returns
returns c = record {
  losses_go_on = losses_go_round;
  t203s_go_on = t203s_go_round;
  busy_goes_on = busy_goes_round;
}
