use Rattle.std.proofs.Common.{rules}
use Rattle.lapd_c.proofs.held_side.HeldSide.next_frame.Goals as goal

pub returns : goal.returns
returns c = search rules
