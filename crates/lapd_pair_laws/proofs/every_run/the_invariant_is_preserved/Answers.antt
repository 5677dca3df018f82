use Rattle.lapd_pair_laws.proofs.Whole.{each_move_preserves, each_run_preserves}
use Rattle.lapd_pair_laws.proofs.Worlds.{new_holds}
use Rattle.lapd_pair_laws.proofs.every_run.the_invariant_is_preserved.Goals as goal

pub returns : goal.returns
returns c = record { begins = new_holds; stays = each_move_preserves; runs = each_run_preserves }
