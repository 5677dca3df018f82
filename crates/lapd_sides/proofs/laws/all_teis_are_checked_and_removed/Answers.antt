use Rattle.lapd_sides.proofs.Dialogues as dialogues
use Rattle.lapd_sides.proofs.laws.all_teis_are_checked_and_removed.Goals as goal

pub returns : goal.returns
returns c = record {
  none_held = dialogues.all_are_checked_and_removed;
  held = dialogues.held_are_not_removed;
  checking = dialogues.one_is_checked;
  obeyed = dialogues.all_are_obeyed;
}
