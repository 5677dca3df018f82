use Rattle.lapd_pair_laws.proofs.EagerSchedule.{held_back, ending_user, ending_network}
use Rattle.lapd_pair_laws.proofs.every_run.eager_schedule_is_computed.Goals as goal

pub returns : goal.returns
returns c = record { refused = held_back; user = ending_user; network = ending_network }
