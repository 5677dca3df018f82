use Rattle.std.proofs.Common.{refl}
use Rattle.lapd_clock_laws.proofs.RunsComputed.{at_half_in_time, at_half_so}
use Rattle.lapd_clock_laws.proofs.runs.half_of_t200_is_reached.Goals as goal

pub returns : goal.returns
returns c = record {
  in_time = at_half_in_time;
  twice = refl;
  to_user = λ message one. (at_half_so message one).to_user;
  to_network = λ message one. (at_half_so message one).to_network;
}
