use Rattle.lapd_sides.proofs.Dialogues as dialogues
use Rattle.lapd_sides.proofs.laws.discarded_frames_are_counted.Goals as goal

pub returns : goal.returns
returns c = record {
  gives = dialogues.discarded_frames_are_counted_gives;
  counts = dialogues.discarded_frames_are_counted_counts;
}
