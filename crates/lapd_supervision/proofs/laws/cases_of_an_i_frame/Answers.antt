use Rattle.lapd_supervision.proofs.Receiving.{received_while_busy, received_in_sequence, received_out_of_sequence, received_while_rejecting}
use Rattle.lapd_supervision.proofs.laws.cases_of_an_i_frame.Goals as goal

pub returns-clause-busy : goal.returns-clause-busy
returns-clause-busy c = received_while_busy

pub returns-clause-in_sequence : goal.returns-clause-in_sequence
returns-clause-in_sequence c = received_in_sequence

pub returns-clause-out_of_sequence : goal.returns-clause-out_of_sequence
returns-clause-out_of_sequence c = received_out_of_sequence

pub returns-clause-rejecting : goal.returns-clause-rejecting
returns-clause-rejecting c = received_while_rejecting
