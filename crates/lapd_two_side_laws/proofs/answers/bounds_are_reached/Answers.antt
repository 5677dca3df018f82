use Rattle.std.proofs.Common.{refl}
use Rattle.lapd_two_side_laws.proofs.AnswersComputed.{are_reached, establish_in_time, late_in_time, release_in_time, without_tei_in_time, backwards_in_time}
use Rattle.lapd_two_side_laws.proofs.answers.bounds_are_reached.Goals as goal

pub returns : goal.returns
returns c = record {
  establish_accepted = are_reached.establish_accepted;
  establish_waits = are_reached.establish_waits;
  establish_ends = are_reached.establish_ends;
  late_waits = are_reached.late_waits;
  late_ends = are_reached.late_ends;
  release_accepted = are_reached.release_accepted;
  release_waits = are_reached.release_waits;
  release_ends = are_reached.release_ends;
  without_tei_accepted = are_reached.without_tei_accepted;
  without_tei_waits = are_reached.without_tei_waits;
  without_tei_ends = are_reached.without_tei_ends;
  establish_in_time = establish_in_time;
  late_in_time = late_in_time;
  release_in_time = release_in_time;
  without_tei_in_time = without_tei_in_time;
  withdrawn = are_reached.withdrawn;
  backwards_accepted = are_reached.backwards_accepted;
  backwards_waits = are_reached.backwards_waits;
  backwards_in_time = backwards_in_time;
  establish_expiries = refl;
  withdrawn_expiries = refl;
  release_expiries = refl;
}
