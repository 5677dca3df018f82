use Rattle.lapd_clock_laws.proofs.Safe.{made_safe, safe_from}
use Rattle.lapd_clock_laws.proofs.laws.each_link_in_time_is_safe.Goals as goal

pub returns : goal.returns
returns c = record {
  as_made = λ c id longest start fixed known random low positive user network.
      made_safe c id low longest positive user network start fixed known random;
  from_here = λ c id longest i k p q m n low positive user network.
      safe_from c id low longest positive user network i k p q m n;
}
