use Rattle.lapd_pair_laws.proofs.TaggedMoves.{move_on_tags, move_near, run_on_tags, outcomes_on_tags}
use Rattle.lapd_pair_laws.proofs.histories.tags_move_as_whole_numbers.Goals as goal

pub returns : goal.returns
returns c = record {
  moves = move_on_tags;
  near = move_near;
  runs = run_on_tags;
  outcomes = outcomes_on_tags;
}
