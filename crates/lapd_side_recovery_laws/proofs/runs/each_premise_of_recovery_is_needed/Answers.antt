use Rattle.lapd_side_recovery_laws.proofs.RunsComputed.{losses_apart, losses_meet, release_apart, release_meets, start_apart, start_meets}
use Rattle.lapd_side_recovery_laws.proofs.runs.each_premise_of_recovery_is_needed.Goals as goal

pub returns : goal.returns
returns c = record {
  timers = (start_meets, start_apart);
  losses = (losses_meet, losses_apart);
  requests = (release_meets, release_apart);
}
