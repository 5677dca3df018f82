use Rattle.std.proofs.Common.{arith}
use Rattle.lapd_link_definition.specs.Procedures.{invoke_retransmission}
use Rattle.lapd_link_machine.proofs.Tails.{tail_gone_back, room_gone_back}
use Rattle.lapd_link_machine.proofs.machine.Machine.invoke_retransmission.Goals as goal

pub returns : goal.returns
unfolding invoke_retransmission
returns c = grind (arith, tail_gone_back, room_gone_back)
