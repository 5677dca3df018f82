use Rattle.lapd_frame.proofs.FrameAt.{frame_again}
use Rattle.lapd_frame.proofs.laws.read_as_spelled.Goals as goal

pub returns : goal.returns
returns c = λ from f h. frame_again from f h.content
