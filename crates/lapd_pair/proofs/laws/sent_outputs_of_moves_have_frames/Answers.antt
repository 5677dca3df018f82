use Rattle.lapd_pair.proofs.Framed.{frames_of_move}
use Rattle.lapd_pair.proofs.laws.sent_outputs_of_moves_have_frames.Goals as goal

pub returns : goal.returns
returns c = frames_of_move
