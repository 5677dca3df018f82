use Rattle.lapd_recovery_laws.proofs.KeptNumbers.{keeping_move_preserves, keeping_run_preserves}
use Rattle.lapd_recovery_laws.proofs.quick_restarts.quick_restarts_keep_the_invariant.Goals as goal

pub returns : goal.returns
returns c = record { stays = keeping_move_preserves; runs = keeping_run_preserves }
