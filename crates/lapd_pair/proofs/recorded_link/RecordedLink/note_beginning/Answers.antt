use Rattle.std.proofs.Common.{rules}
use Rattle.lapd_pair.proofs.recorded_link.RecordedLink.note_beginning.Goals as goal

pub returns-then-begins-clause-shows : goal.returns-then-begins-clause-shows
returns-then-begins-clause-shows c = search rules

pub returns-else-begins-clause-shows : goal.returns-else-begins-clause-shows
returns-else-begins-clause-shows c = search rules
