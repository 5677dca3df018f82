use Rattle.std.proofs.Common.{arith}
use Rattle.std.proofs.lemmas.Grind.{common_steps}
use Rattle.lapd_capture.proofs.order.Order.u32_at.Goals as goal

pub returns-in-Little-clause-number : goal.returns-in-Little-clause-number
returns-in-Little-clause-number c = grind (arith, common_steps)
