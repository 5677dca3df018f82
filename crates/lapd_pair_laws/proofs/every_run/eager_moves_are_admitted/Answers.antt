use Rattle.lapd_pair_laws.proofs.Eager.{same_eagerly, only_unawaited}
use Rattle.lapd_pair_laws.proofs.every_run.eager_moves_are_admitted.Goals as goal

pub returns : goal.returns
returns c = record { same = same_eagerly; only = only_unawaited }
