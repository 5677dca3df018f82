use Rattle.lapd_pair_laws.proofs.Reached.{every_run_is_fresh}
use Rattle.lapd_pair_laws.proofs.every_run.no_old_message_arrives.Goals as goal

pub returns : goal.returns
returns c = every_run_is_fresh
