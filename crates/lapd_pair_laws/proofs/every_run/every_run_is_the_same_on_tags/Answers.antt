use Rattle.lapd_pair_laws.proofs.Reached.{reached_tags, reached_outcomes}
use Rattle.lapd_pair_laws.proofs.every_run.every_run_is_the_same_on_tags.Goals as goal

pub returns : goal.returns
returns c = record { worlds = reached_tags; outcomes = reached_outcomes }
