use Rattle.lapd_bus_restart_laws.proofs.RunsComputedAcross.{command_keeps, command_is_not_expected, comes_back_so, comes_back_is_not_right}
use Rattle.lapd_bus_restart_laws.proofs.runs.each_restart_premise_is_needed_on_a_bus.Goals as goal

pub returns : goal.returns
returns c = record {
  command = (command_keeps, command_is_not_expected);
  link = λ v w x y. ((comes_back_so v w x y).keeps, comes_back_is_not_right v w x y);
}
