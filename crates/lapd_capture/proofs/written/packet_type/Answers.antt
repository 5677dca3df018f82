use Rattle.std.proofs.Common.{rules}
use Rattle.lapd_capture.proofs.written.packet_type.Goals as goal

pub returns-in-Network-Network : goal.returns-in-Network-Network
returns-in-Network-Network c = search rules

pub returns-in-Network-Network-2 : goal.returns-in-Network-Network-2
returns-in-Network-Network-2 c = search rules
