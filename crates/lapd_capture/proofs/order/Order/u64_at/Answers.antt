use Rattle.std.proofs.Common.{arith}
use Rattle.std.proofs.lemmas.Grind.{common_steps}
use Rattle.lapd_capture.proofs.order.Order.u64_at.Goals as goal

pub returns-in-Little : goal.returns-in-Little
returns-in-Little c = grind (arith, common_steps)
