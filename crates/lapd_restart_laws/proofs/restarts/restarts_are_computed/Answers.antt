use Rattle.lapd_restart_laws.proofs.RestartsComputed.{across_both_so, tei_lost_so}
use Rattle.lapd_restart_laws.proofs.restarts.restarts_are_computed.Goals as goal

pub returns : goal.returns
returns c = record {
  premises = λ s t u v w x y z. (across_both_so s t u v w x y z).premises;
  to_user = λ s t u v w x y z. (across_both_so s t u v w x y z).to_user;
  to_network = λ s t u v w x y z. (across_both_so s t u v w x y z).to_network;
  lost_premises = λ v x. (tei_lost_so v x).lost_premises;
  next_premises = λ v x. (tei_lost_so v x).next_premises;
  lost_to_user = λ v x. (tei_lost_so v x).lost_to_user;
  next_to_user = λ v x. (tei_lost_so v x).next_to_user;
  next_to_network = λ v x. (tei_lost_so v x).next_to_network;
}
