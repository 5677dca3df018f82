use Rattle.std.proofs.Common.{arith}
use Rattle.std.proofs.lemmas.Grind.{common_steps}
use Rattle.lapd_sides_links.proofs.delivery.put_frames.Goals as goal

pub loop-out-preserved : goal.loop-out-preserved
loop-out-preserved c = grind (arith, common_steps)
