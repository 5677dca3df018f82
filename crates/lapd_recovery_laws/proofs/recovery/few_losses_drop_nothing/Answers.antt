use Rattle.lapd_recovery_laws.proofs.FewLosses.{few_losses_drop_nothing}
use Rattle.lapd_recovery_laws.proofs.recovery.few_losses_drop_nothing.Goals as goal

pub returns : goal.returns
returns c = few_losses_drop_nothing
