use Rattle.lapd_recovery_laws.proofs.QuickSchedule.{ending_user, ending_network}
use Rattle.lapd_recovery_laws.proofs.quick_restarts.quick_restart_is_computed.Goals as goal

pub returns : goal.returns
returns c = record { user = ending_user; network = ending_network }
