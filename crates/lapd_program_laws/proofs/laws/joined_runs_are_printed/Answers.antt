use Rattle.lapd_program_laws.proofs.Orders.{printed_together}
use Rattle.lapd_program_laws.proofs.laws.joined_runs_are_printed.Goals as goal

pub returns : goal.returns
returns c = printed_together
