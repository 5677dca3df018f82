use Rattle.lapd_link.proofs.Frames.{allows_new, allows_after, frames_of_step, short_unit, frames_of_link}
use Rattle.lapd_link.proofs.laws.sent_outputs_have_frames.Goals as goal

pub returns : goal.returns
returns c = record {
  begins = allows_new;
  stays = allows_after;
  frames = frames_of_step;
  units = short_unit;
  links = frames_of_link;
}
