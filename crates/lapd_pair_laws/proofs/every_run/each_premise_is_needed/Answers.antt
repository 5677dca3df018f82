use Rattle.lapd_pair_laws.proofs.Needed.{hasty_is_not_safe, stale_is_not_safe, overtaken_is_not_safe}
use Rattle.lapd_pair_laws.proofs.every_run.each_premise_is_needed.Goals as goal

pub returns : goal.returns
returns c =
    record { t200 = hasty_is_not_safe; restart = stale_is_not_safe; order = overtaken_is_not_safe }
