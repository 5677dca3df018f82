use Rattle.lapd_sides.specs.Network.{network_rules}
use Rattle.lapd_sides.specs.User.{user_rules}
use Rattle.lapd_two_side_laws.proofs.ExactLinks.{runs_by_state}
use Rattle.lapd_two_side_laws.proofs.ExactSides.{event_exact, network_exactly, user_exactly, new_network_exact, new_user_exact, network_steps_exact, user_steps_exact, run_is_exact}
use Rattle.lapd_two_side_laws.proofs.DeadlinesCoverTimers.{link_is_woken}
use Rattle.lapd_two_side_laws.proofs.laws.timers_run_as_ends_require.Goals as goal

pub returns : goal.returns
returns c = record {
  network_event = λ config. event_exact network_rules config (network_exactly config);
  user_event = λ config. event_exact user_rules config (user_exactly config);
  by_state = runs_by_state;
  woken = link_is_woken;
  new_network = new_network_exact;
  new_user = new_user_exact;
  network_steps = network_steps_exact;
  user_steps = user_steps_exact;
  interface = run_is_exact;
}
