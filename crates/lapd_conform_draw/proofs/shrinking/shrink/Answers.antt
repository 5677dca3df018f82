use Rattle.lapd_conform_draw.proofs.Cuts.{part_of_part}
use Rattle.lapd_conform_draw.proofs.shrinking.shrink.Goals as goal

pub returns-then-len-before : goal.returns-then-len-before
returns-then-len-before g c = part_of_part c.in_ok-least-2.ensures c.loop-pass.invariant

pub loop-pass-preserved : goal.loop-pass-preserved
loop-pass-preserved g c = part_of_part c.in_ok-least-2.ensures c.loop-pass.invariant
