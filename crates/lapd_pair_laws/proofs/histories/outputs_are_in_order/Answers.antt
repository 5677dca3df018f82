use Rattle.lapd_pair_laws.proofs.Consistency.{outputs_in_order, one_is_delivered, none_is_delivered}
use Rattle.lapd_pair_laws.proofs.histories.outputs_are_in_order.Goals as goal

pub returns : goal.returns
returns c = record { order = outputs_in_order; up = one_is_delivered; unheard = none_is_delivered }
