use Rattle.lapd_frame.proofs.FrameAt.{frame_spelled}
use Rattle.lapd_frame.proofs.laws.one_spelling.Goals as goal

pub returns : goal.returns
returns c = frame_spelled
