use Rattle.lapd_side_recovery_laws.proofs.OtherRequests.{network_asks_other, user_asks_other}
use Rattle.lapd_side_recovery_laws.proofs.laws.requests_for_others_leave_a_link.Goals as goal

pub returns : goal.returns
returns c = record {
  network = λ config id other v request now low is apart.
      network_asks_other config id low v request now other is apart;
  user = λ config id other tei v request now low is has apart.
      user_asks_other config id low v request now other tei is has apart;
}
