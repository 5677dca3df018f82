use Rattle.lapd_pair_laws.proofs.Consistency.{new_world_consistent, move_consistent, run_consistent}
use Rattle.lapd_pair_laws.proofs.histories.worlds_are_consistent.Goals as goal

pub returns : goal.returns
returns c = record { begins = new_world_consistent; stays = move_consistent; runs = run_consistent }
