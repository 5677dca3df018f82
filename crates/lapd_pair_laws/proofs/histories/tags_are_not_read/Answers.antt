use Rattle.lapd_pair_laws.proofs.TaggedMoves.{safe_on_tags, left_on_tags, new_world_on_tags}
use Rattle.lapd_pair_laws.proofs.histories.tags_are_not_read.Goals as goal

pub returns : goal.returns
returns c = record { safe = safe_on_tags; left = left_on_tags; begins = new_world_on_tags }
