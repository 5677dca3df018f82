use Rattle.lapd_side_events.specs.SideView.{does}
use Rattle.lapd_two_side_laws.proofs.ManagementSides.{network_timer, user_timer, new_network_waits, new_user_waits, run_waits}
use Rattle.lapd_two_side_laws.proofs.DeadlinesCoverTimers.{terminal_is_woken, assigner_is_woken}
use Rattle.lapd_two_side_laws.proofs.laws.management_timers_run_while_it_waits.Goals as goal

pub returns : goal.returns
unfolding does
returns c = record {
  new_user = new_user_waits;
  new_network = new_network_waits;
  user_event = user_timer;
  network_event = network_timer;
  interface = run_waits;
  terminal_is_woken = terminal_is_woken;
  assigner_is_woken = assigner_is_woken;
}
