use Rattle.lapd_sides.proofs.Dialogues as dialogues
use Rattle.lapd_sides.proofs.laws.pending_establishments_are_done.Goals as goal

pub returns : goal.returns
returns c = record {
  gives = dialogues.pending_establishments_are_done_outputs;
  t202 = dialogues.pending_establishments_are_done_t202;
  t200 = dialogues.pending_establishments_are_done_t200;
}
