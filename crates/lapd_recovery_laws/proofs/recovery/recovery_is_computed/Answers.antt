use Rattle.lapd_recovery_laws.proofs.WorkedWorlds.{restart_back, restart_back_by_last, sabmes_back, sabmes_back_by_last, one_sent_back, one_sent_back_by_last, unheard_back, unheard_back_by_last, crossed_back, crossed_back_by_last, longest_back, longest_back_by_last, first_lost, first_lost_by_last, poll_met, poll_met_by_last, three_lost, three_lost_by_last, two_lost, two_lost_by_last, rests_apart, busy_is_held_up, network_is_busy, restart_is_wanted, sabme_back, sabme_is_wanted, last_try_gone, waiting_release_gone, poll_met_is_wanted, release_goes_on, dm_gone, crossing_polls, polls_after_restart, t200_beside, t203_first, poll_met_is_free}
use Rattle.lapd_recovery_laws.proofs.recovery.recovery_is_computed.Goals as goal

pub returns : goal.returns
returns c = record {
  restart = restart_back;
  restart_by_last = restart_back_by_last;
  sabmes = sabmes_back;
  sabmes_by_last = sabmes_back_by_last;
  one_sent = one_sent_back;
  one_sent_by_last = one_sent_back_by_last;
  unheard = unheard_back;
  unheard_by_last = unheard_back_by_last;
  crossed = crossed_back;
  crossed_by_last = crossed_back_by_last;
  longest = longest_back;
  longest_by_last = longest_back_by_last;
  first_lost = first_lost;
  first_lost_by_last = first_lost_by_last;
  poll_meets_sabme = poll_met;
  poll_meets_sabme_by_last = poll_met_by_last;
  three_polls_lost = three_lost;
  three_polls_lost_by_last = three_lost_by_last;
  two_polls_lost = two_lost;
  two_polls_lost_by_last = two_lost_by_last;
  apart_without_t203 = rests_apart;
  held_up = busy_is_held_up;
  busy = network_is_busy;
  restart_is_wanted = restart_is_wanted;
  sabme_lost = sabme_back;
  sabme_is_wanted = sabme_is_wanted;
  last_try_gone = last_try_gone;
  poll_met_is_wanted = poll_met_is_wanted;
  waiting_release_gone = waiting_release_gone;
  release_goes_on = release_goes_on;
  dm_gone = dm_gone;
  crossing_polls = crossing_polls;
  polls_after_restart = polls_after_restart;
  t200_beside_frames = t200_beside;
  t203_before_t200 = t203_first;
  poll_met_is_free = poll_met_is_free;
}
