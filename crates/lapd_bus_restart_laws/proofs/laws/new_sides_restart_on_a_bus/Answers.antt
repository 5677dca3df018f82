use Rattle.lapd_bus_restart_laws.proofs.FollowedAcross.{restarted_by, network_restarted_by}
use Rattle.lapd_bus_restart_laws.proofs.laws.new_sides_restart_on_a_bus.Goals as goal

pub returns : goal.returns
returns c = record { network = network_restarted_by; terminal = restarted_by }
