use Rattle.lapd_pair_laws.proofs.Swaps.{network_alike}
use Rattle.lapd_pair_laws.proofs.histories.sides_are_alike.Goals as goal

pub returns : goal.returns
returns c = network_alike
