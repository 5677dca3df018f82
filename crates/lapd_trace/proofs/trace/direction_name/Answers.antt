use Rattle.std.proofs.Common.{rules}
use Rattle.lapd_trace.proofs.trace.direction_name.Goals as goal

pub returns-in-User : goal.returns-in-User
returns-in-User c = search rules

pub returns-in-Network : goal.returns-in-Network
returns-in-Network c = search rules
