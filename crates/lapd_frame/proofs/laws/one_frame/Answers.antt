use Rattle.lapd_frame.proofs.FrameAt.{one_frame}
use Rattle.lapd_frame.proofs.laws.one_frame.Goals as goal

pub returns : goal.returns
returns c = one_frame
