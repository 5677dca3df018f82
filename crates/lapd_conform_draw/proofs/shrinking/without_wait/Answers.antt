use Rattle.lapd_conform_draw.proofs.Cuts.{whole}
use Rattle.lapd_conform_draw.proofs.shrinking.without_wait.Goals as goal

pub returns-else-branch : goal.returns-else-branch
returns-else-branch g c = whole _
