use Rattle.lapd_clock_bus_laws.proofs.AcrossRestarts.{made_across}
use Rattle.lapd_clock_bus_laws.proofs.restarts.each_link_in_time_is_safe_across_restarts.Goals as goal

pub returns : goal.returns
returns c = λ c id longest start fixed known random low positive user network.
    made_across c id low longest positive user network start fixed known random
