use Rattle.std.proofs.Common.{rules}
use Rattle.lapd_frame.proofs.frame.content_fault.Goals as goal

pub returns-in-Command-I : goal.returns-in-Command-I
returns-in-Command-I c = search rules
