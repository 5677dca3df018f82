use Rattle.lapd_sides.specs.Network.{network_rules}
use Rattle.lapd_sides.specs.ShowsNetwork.{ShowNetwork}
use Rattle.lapd_sides.specs.ShowsUser.{ShowUser}
use Rattle.lapd_sides.specs.User.{user_rules}
use Rattle.lapd_side_events.proofs.Called.{call_takes, call_ticks, call_requests}
use Rattle.lapd_side_events.proofs.laws.calls_are_events.Goals as goal

pub returns : goal.returns
returns c = record {
  network_takes = call_takes ShowNetwork network_rules;
  network_ticks = call_ticks ShowNetwork network_rules;
  network_requests = call_requests ShowNetwork network_rules;
  user_takes = call_takes ShowUser user_rules;
  user_ticks = call_ticks ShowUser user_rules;
  user_requests = call_requests ShowUser user_rules;
}
