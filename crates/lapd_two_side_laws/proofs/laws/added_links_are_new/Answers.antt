use Rattle.lapd_two_side_laws.proofs.NewLinks.{network_adds_new, user_adds_new}
use Rattle.lapd_two_side_laws.proofs.laws.added_links_are_new.Goals as goal

pub returns : goal.returns
returns c = record { network = network_adds_new; user = user_adds_new }
