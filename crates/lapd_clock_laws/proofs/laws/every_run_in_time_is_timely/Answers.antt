use Rattle.lapd_clock_laws.proofs.EveryRun.{made_timely, timely_from}
use Rattle.lapd_clock_laws.proofs.laws.every_run_in_time_is_timely.Goals as goal

pub returns : goal.returns
returns c = record {
  as_made = λ c id longest start fixed known random low positive user network.
      made_timely c id low longest positive user network fixed known random start;
  from_here = λ c id longest i k low positive user network.
      timely_from c id low longest positive user network i k;
}
