use Rattle.lapd_bus_restart_laws.proofs.RunsComputedAcross.{across_both_so, fixed_only}
use Rattle.lapd_bus_restart_laws.proofs.runs.restarts_on_a_bus_are_computed.Goals as goal

pub returns : goal.returns
returns c = record {
  only = fixed_only;
  keeps = λ s t u v w x y z. (across_both_so s t u v w x y z).keeps;
  to_network = λ s t u v w x y z. (across_both_so s t u v w x y z).to_network;
  to_terminals = λ s t u v w x y z. (across_both_so s t u v w x y z).to_terminals;
}
