use Rattle.lapd_recovery_laws.proofs.AgreementAfterRuns.{every_agreement_is_kept}
use Rattle.lapd_recovery_laws.proofs.recovery.every_agreement_is_kept.Goals as goal

pub returns : goal.returns
returns c = every_agreement_is_kept
