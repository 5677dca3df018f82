use Rattle.lapd_pair_laws.proofs.Reached.{every_run_asks_one}
use Rattle.lapd_pair_laws.proofs.every_run.each_side_asks_one_at_a_time.Goals as goal

pub returns : goal.returns
returns c = every_run_asks_one
