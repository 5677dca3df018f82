use Rattle.std.proofs.Common.{arith}
use Rattle.std.proofs.lemmas.Grind.{common_steps}
use Rattle.lapd_link_definition.specs.Procedures.{retransmit_last_i_frame}
use Rattle.lapd_link_machine.proofs.Tails.{tail_last_place}
use Rattle.lapd_link_machine.proofs.machine.Machine.retransmit_last_i_frame.Goals as goal

pub returns-clause-step : goal.returns-clause-step
unfolding retransmit_last_i_frame
returns-clause-step c = grind (arith, common_steps, tail_last_place)
