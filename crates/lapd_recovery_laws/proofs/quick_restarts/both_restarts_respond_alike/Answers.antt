use Rattle.lapd_recovery_laws.proofs.UnreadNumbers.{restarts_do_the_same}
use Rattle.lapd_recovery_laws.proofs.quick_restarts.both_restarts_respond_alike.Goals as goal

pub returns : goal.returns
returns c = restarts_do_the_same
