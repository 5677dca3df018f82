use Rattle.std.proofs.Common.{sym}
use Rattle.lapd_cli_frames.proofs.tables.push_range_member.Goals as goal

pub returns : goal.returns
returns c = rw (sym c.mean_of-mean.ensures) c.write.ensures.bytes
