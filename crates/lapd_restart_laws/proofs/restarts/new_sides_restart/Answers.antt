use Rattle.lapd_restart_laws.proofs.NewSides.{new_network_restarts, new_user_restarts}
use Rattle.lapd_restart_laws.proofs.restarts.new_sides_restart.Goals as goal

pub returns : goal.returns
returns c = record { network = new_network_restarts; user = new_user_restarts }
