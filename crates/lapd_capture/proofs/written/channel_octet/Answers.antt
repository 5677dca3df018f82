use Rattle.std.proofs.Common.{rules}
use Rattle.lapd_capture.proofs.written.channel_octet.Goals as goal

pub returns-in-User : goal.returns-in-User
returns-in-User c = search rules
