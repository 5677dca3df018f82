use Rattle.lapd_pair_laws.proofs.Schedules.{recovering_user, ending_user, ending_network, ending_lines, ending_left, waiting_left, restarted_user, restarted_lines, units_pass}
use Rattle.lapd_pair_laws.proofs.histories.schedule_is_computed.Goals as goal

pub returns : goal.returns
returns c = record {
  recovery = recovering_user;
  user = ending_user;
  network = ending_network;
  lines = ending_lines;
  nothing_left = ending_left;
  one_left = waiting_left;
  restarted = restarted_user;
  restarted_lines = restarted_lines;
  units = units_pass;
}
