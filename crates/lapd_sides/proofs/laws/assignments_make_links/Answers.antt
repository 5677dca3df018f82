use Rattle.lapd_sides.proofs.Dialogues as dialogues
use Rattle.lapd_sides.proofs.laws.assignments_make_links.Goals as goal

pub returns : goal.returns
returns c = dialogues.assignments_make_links
