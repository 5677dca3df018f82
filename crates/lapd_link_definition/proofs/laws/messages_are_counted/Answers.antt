use Rattle.lapd_link_definition.proofs.InputsThatCount.{given_after, ups_after}
use Rattle.lapd_link_definition.proofs.OrderOfStep.{order_of_step}
use Rattle.lapd_link_definition.proofs.PlacesOfStep.{first_after}
use Rattle.lapd_link_definition.proofs.UnitsOfStep.{units_after}
use Rattle.lapd_link_definition.proofs.laws.messages_are_counted.Goals as goal

pub returns : goal.returns
returns c = record {
  given = given_after;
  first = first_after;
  order = order_of_step;
  unit = units_after;
  up = ups_after;
}
