use Rattle.lapd_clock_bus_laws.proofs.AcrossComputed.{restarts_in_time, restarts_so}
use Rattle.lapd_clock_bus_laws.proofs.restarts.restart_premises_in_time_can_be_met.Goals as goal

pub returns : goal.returns
returns c = record {
  in_time = restarts_in_time;
  others = λ message one. (restarts_so message one).others;
  tei = λ message one. (restarts_so message one).tei;
  to_network = λ message one. (restarts_so message one).to_network;
}
