use Rattle.lapd_bus_laws.proofs.HealingComputed.{request_lost_so, too_early_so, given_up_so, joins_during_so, same_then_so, begun_so, before_removals_so, before_rest_so}
use Rattle.lapd_bus_laws.proofs.healing.each_healing_premise_is_needed.Goals as goal

pub returns : goal.returns
returns c = record {
  delivery = request_lost_so;
  time = too_early_so;
  restart = given_up_so;
  joining = joins_during_so;
  references = same_then_so;
  in_progress = begun_so;
  removals = before_removals_so;
  rest = before_rest_so;
}
