use Rattle.std.proofs.Common.{rules}
use Rattle.lapd_c.proofs.codes.code_of_link_fault.Goals as goal

pub returns-in-QueueFull : goal.returns-in-QueueFull
returns-in-QueueFull c = search rules
