use Rattle.lapd_clock_bus_laws.proofs.BusComputed.{bus_at_half_in_time, bus_at_half_kept, bus_at_half_so, first_is_there}
use Rattle.lapd_clock_bus_laws.proofs.buses.bus_premises_in_time_can_be_met.Goals as goal

pub returns : goal.returns
returns c = record {
  terminal = first_is_there;
  keeps = bus_at_half_kept;
  others = λ message one. (bus_at_half_so message one).others;
  in_time = bus_at_half_in_time;
  to_network = λ message one. (bus_at_half_so message one).to_network;
}
