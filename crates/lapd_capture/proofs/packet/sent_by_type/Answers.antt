use Rattle.std.proofs.Common.{rules}
use Rattle.lapd_capture.proofs.packet.sent_by_type.Goals as goal

pub returns-in-0-to-2 : goal.returns-in-0-to-2
returns-in-0-to-2 c = search rules
