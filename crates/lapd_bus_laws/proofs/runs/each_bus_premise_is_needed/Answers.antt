use Rattle.lapd_bus_laws.proofs.RunsComputed.{while_held, in_transit, shared, answered, joins_held, fixed_twice}
use Rattle.lapd_bus_laws.proofs.runs.each_bus_premise_is_needed.Goals as goal

pub returns : goal.returns
returns c = record {
  while_held = while_held;
  in_transit = in_transit;
  references = shared;
  answered = answered;
  joining = joins_held;
  fixed = fixed_twice;
}
