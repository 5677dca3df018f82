use Rattle.lapd_two_side_laws.proofs.Networks.{of_network}
use Rattle.lapd_two_side_laws.proofs.Users.{of_user}
use Rattle.lapd_two_side_laws.proofs.laws.each_link_gets_its_own.Goals as goal

pub returns : goal.returns
returns c = record { network = of_network; user = of_user }
