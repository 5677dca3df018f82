use Rattle.lapd_pair_laws.proofs.SettledEnds.{new_settles, run_settles}
use Rattle.lapd_pair_laws.proofs.quiet_line.ends_settle_between_moves.Goals as goal

pub returns : goal.returns
returns c = λ user network u n moves. run_settles moves _ (new_settles user network u n)
