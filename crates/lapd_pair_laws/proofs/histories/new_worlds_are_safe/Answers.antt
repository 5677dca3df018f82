use Rattle.lapd_pair_laws.proofs.Safety.{new_is_safe}
use Rattle.lapd_pair_laws.proofs.histories.new_worlds_are_safe.Goals as goal

pub returns : goal.returns
returns c = new_is_safe
