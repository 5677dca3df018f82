use Rattle.lapd_cli_live.proofs.Steps.{received_end}
use Rattle.lapd_cli_live.proofs.live_side.LiveSide.catch_up.Goals as goal

pub returns-clause-does : goal.returns-clause-does
returns-clause-does g c = record {
  received = _;
  receives = received_end _ _ _ c.in_ok-receive_all.ensures;
  due = c.in_ok-expire_due.ensures;
}
