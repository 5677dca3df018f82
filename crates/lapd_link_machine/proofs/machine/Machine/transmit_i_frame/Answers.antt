use Rattle.std.proofs.Common.{rules, arith}
use Rattle.lapd_link_definition.specs.Procedures.{transmit_i_frame}
use Rattle.lapd_link_machine.proofs.Tails.{tail_waiting, tail_place, tail_sent, room_sent}
use Rattle.lapd_link_machine.proofs.machine.Machine.transmit_i_frame.Goals as goal

pub returns-clause-step : goal.returns-clause-step
unfolding transmit_i_frame
returns-clause-step c = grind (arith, tail_waiting, tail_place, tail_sent, room_sent)

pub returns-clause-window : goal.returns-clause-window
returns-clause-window c = search rules
