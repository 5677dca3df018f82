use Rattle.std.proofs.Common.{rules}
use Rattle.lapd_port.proofs.reading.is_frame_length.Goals as goal

pub returns : goal.returns
returns c = search rules
