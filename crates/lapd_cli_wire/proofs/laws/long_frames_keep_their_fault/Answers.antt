use Rattle.lapd_cli_wire.proofs.LongFrames.{front_is_read}
use Rattle.lapd_cli_wire.proofs.laws.long_frames_keep_their_fault.Goals as goal

pub returns : goal.returns
returns c = front_is_read
