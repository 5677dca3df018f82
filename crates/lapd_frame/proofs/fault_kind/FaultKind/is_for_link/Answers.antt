use Rattle.std.proofs.Common.{rules}
use Rattle.lapd_frame.proofs.fault_kind.FaultKind.is_for_link.Goals as goal

pub returns-in-TooShort : goal.returns-in-TooShort
returns-in-TooShort c = search rules
