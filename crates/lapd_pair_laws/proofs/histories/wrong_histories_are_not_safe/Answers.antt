use Rattle.lapd_pair_laws.proofs.Safety.{twice_is_not_safe, swapped_is_not_safe, skipped_is_not_safe, missing_is_not_safe, unreceived_is_not_safe, altered_is_not_safe}
use Rattle.lapd_pair_laws.proofs.histories.wrong_histories_are_not_safe.Goals as goal

pub returns : goal.returns
returns c = record {
  twice = twice_is_not_safe;
  swapped = swapped_is_not_safe;
  skipped = skipped_is_not_safe;
  missing = missing_is_not_safe;
  unreceived = unreceived_is_not_safe;
  altered = altered_is_not_safe;
}
