use Rattle.lapd_bus_restart_laws.proofs.FollowedAcross.{follows_across, same_without_restarts}
use Rattle.lapd_bus_restart_laws.proofs.laws.each_run_across_restarts_is_one_of_two_sides.Goals as goal

pub returns : goal.returns
returns c = record { runs = follows_across; without = same_without_restarts }
