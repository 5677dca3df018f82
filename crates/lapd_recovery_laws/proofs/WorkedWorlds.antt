-- Worked worlds recover as expected, computed in both readings.
use Rattle.std.proofs.Common.{◌≡◌, true, refl, None, arith, inl, inr}
use Rattle.lapd_link_definition.specs.declared.recovery.Recovery.TheVariants.{Enquiry, LastMessage}
use Rattle.lapd_mod128.specs.Counting.{Reading, Whole, Tagged}
use Rattle.lapd_pair_laws.specs.World.{run}
use Rattle.lapd_pair_laws.specs.Schedule.{establishing}
use Rattle.lapd_pair_laws.specs.Settle.{next_move}
use Rattle.lapd_pair_laws.specs.Worked.{new_pair, sabme_lost, busy}
use Rattle.lapd_recovery_laws.specs.EveryWorld.{IsFreeWorld}
use Rattle.lapd_recovery_laws.specs.FewLosses.{OutlastLosses}
use Rattle.lapd_recovery_laws.specs.KeptAgreement.{earlies_out_of_step}
use Rattle.lapd_recovery_laws.specs.Losses.{AreOwnOrLosses}
use Rattle.lapd_recovery_laws.specs.WantedLine.{AreWanting, IsWanted}
use Rattle.lapd_recovery_laws.specs.Recovered.{outcome_of, outcome_of_deliveries, outcome_of, first_of_three_lost, poll_meets_sabme, both_sabmes_lost, network_restarts, restarts_with_one_sent, release_waits, sabmes_lost, disc_lost, release_unheard, disc_meets_sabme, dm_sent, longest, both_in_7, both_in_4, held_up, IsBusy, message_lost, three_polls_lost, two_polls_lost, outcome_despite, outcome_of_few, polls_cross, polled_on, agreed_after, least_pair, all_admitted, outcome_of_least, eight_wait, t200_beside_frames, too_many_t200, network_sabme_lost, t203_before_t200, too_many_t203}
use Rattle.lapd_pair_laws.proofs.ComputedRun.{computed_run}

pub restart_back : (r : Reading) → outcome_of r (run r network_restarts (new_pair 1 Enquiry)) ≡ both_in_7 11 0 0
unfolding computed_run
restart_back Whole = refl
restart_back Tagged = refl

pub restart_back_by_last : (r : Reading) → outcome_of r (run r network_restarts (new_pair 1 LastMessage)) ≡ both_in_7 11 0 0
unfolding computed_run
restart_back_by_last Whole = refl
restart_back_by_last Tagged = refl

pub sabmes_back : (r : Reading) → outcome_of r (run r both_sabmes_lost (new_pair 1 Enquiry)) ≡ both_in_7 6 0 0
unfolding computed_run
sabmes_back Whole = refl
sabmes_back Tagged = refl

pub sabmes_back_by_last : (r : Reading) → outcome_of r (run r both_sabmes_lost (new_pair 1 LastMessage)) ≡ both_in_7 6 0 0
unfolding computed_run
sabmes_back_by_last Whole = refl
sabmes_back_by_last Tagged = refl

pub one_sent_back : (r : Reading) → outcome_of r (run r restarts_with_one_sent (new_pair 1 Enquiry)) ≡ both_in_7 9 0 1
unfolding computed_run
one_sent_back Whole = refl
one_sent_back Tagged = refl

pub one_sent_back_by_last : (r : Reading) → outcome_of r (run r restarts_with_one_sent (new_pair 1 LastMessage)) ≡ both_in_7 9 0 1
unfolding computed_run
one_sent_back_by_last Whole = refl
one_sent_back_by_last Tagged = refl

pub unheard_back : (r : Reading) → outcome_of r (run r release_unheard (new_pair 1 Enquiry)) ≡ both_in_7 12 0 0
unfolding computed_run
unheard_back Whole = refl
unheard_back Tagged = refl

pub unheard_back_by_last : (r : Reading) → outcome_of r (run r release_unheard (new_pair 1 LastMessage)) ≡ both_in_7 12 0 0
unfolding computed_run
unheard_back_by_last Whole = refl
unheard_back_by_last Tagged = refl

pub crossed_back : (r : Reading) → outcome_of r (run r disc_meets_sabme (new_pair 1 Enquiry)) ≡ both_in_4 4
unfolding computed_run
crossed_back Whole = refl
crossed_back Tagged = refl

pub crossed_back_by_last : (r : Reading) → outcome_of r (run r disc_meets_sabme (new_pair 1 LastMessage)) ≡ both_in_4 4
unfolding computed_run
crossed_back_by_last Whole = refl
crossed_back_by_last Tagged = refl

pub first_lost : (r : Reading) → outcome_of_deliveries r (run r first_of_three_lost (new_pair 3 Enquiry)) ≡ both_in_7 9 3 0
unfolding computed_run
first_lost Whole = refl
first_lost Tagged = refl

pub first_lost_by_last : (r : Reading) → outcome_of_deliveries r (run r first_of_three_lost (new_pair 3 LastMessage)) ≡ both_in_7 9 3 0
unfolding computed_run
first_lost_by_last Whole = refl
first_lost_by_last Tagged = refl

pub poll_met : (r : Reading) → outcome_of r (run r poll_meets_sabme (new_pair 1 Enquiry)) ≡ both_in_7 5 1 0
unfolding computed_run
poll_met Whole = refl
poll_met Tagged = refl

pub poll_met_by_last : (r : Reading) → outcome_of r (run r poll_meets_sabme (new_pair 1 LastMessage)) ≡ both_in_7 5 1 0
unfolding computed_run
poll_met_by_last Whole = refl
poll_met_by_last Tagged = refl

pub longest_back : (r : Reading) → outcome_of r (run r longest (new_pair 1 Enquiry)) ≡ both_in_7 31 0 1
unfolding computed_run
longest_back Whole = refl
longest_back Tagged = refl

pub longest_back_by_last : (r : Reading) → outcome_of r (run r longest (new_pair 1 LastMessage)) ≡ both_in_7 31 0 1
unfolding computed_run
longest_back_by_last Whole = refl
longest_back_by_last Tagged = refl

pub busy_is_held_up : (r : Reading) → outcome_of r (run r busy (new_pair 1 Enquiry)) ≡ held_up
unfolding computed_run
busy_is_held_up Whole = refl
busy_is_held_up Tagged = refl

pub network_is_busy : (r : Reading) → IsBusy (run r busy (new_pair 1 Enquiry))
unfolding computed_run
network_is_busy Whole user network = let free = network refl in cc
network_is_busy Tagged user network = let free = network refl in cc

pub restart_is_wanted : (r : Reading) → IsFreeWorld 3 (run r network_restarts (new_pair 1 Enquiry))
    × IsWanted (run r network_restarts (new_pair 1 Enquiry))
unfolding computed_run
restart_is_wanted Whole = (record { user_free = λ _. refl; network_free = λ _. refl; user_retries = omega arith; network_retries = omega arith }, record { ends = record { mine = record { not_releasing = λ is. cc; none_pending = λ is. cc }; its = record { not_releasing = λ is. cc; none_pending = λ is. cc }; either = inl (inl refl) }; to_user = tt; to_network = tt })
restart_is_wanted Tagged = (record { user_free = λ _. refl; network_free = λ _. refl; user_retries = omega arith; network_retries = omega arith }, record { ends = record { mine = record { not_releasing = λ is. cc; none_pending = λ is. cc }; its = record { not_releasing = λ is. cc; none_pending = λ is. cc }; either = inl (inl refl) }; to_user = tt; to_network = tt })

pub sabme_back : (r : Reading) → outcome_of r (run r sabme_lost (new_pair 1 Enquiry)) ≡ both_in_7 3 0 0
unfolding computed_run
sabme_back Whole = refl
sabme_back Tagged = refl

pub sabme_is_wanted : (r : Reading) → IsFreeWorld 3 (run r sabme_lost (new_pair 1 Enquiry))
    × IsWanted (run r sabme_lost (new_pair 1 Enquiry))
unfolding computed_run
sabme_is_wanted Whole = (record { user_free = λ o. cc; network_free = λ o. cc; user_retries = omega arith; network_retries = omega arith }, record { ends = record { mine = record { not_releasing = λ is. cc; none_pending = λ is. refl }; its = record { not_releasing = λ is. cc; none_pending = λ is. cc }; either = inl (inr (refl, omega arith)) }; to_user = tt; to_network = tt })
sabme_is_wanted Tagged = (record { user_free = λ o. cc; network_free = λ o. cc; user_retries = omega arith; network_retries = omega arith }, record { ends = record { mine = record { not_releasing = λ is. cc; none_pending = λ is. refl }; its = record { not_releasing = λ is. cc; none_pending = λ is. cc }; either = inl (inr (refl, omega arith)) }; to_user = tt; to_network = tt })

pub last_try_gone : (r : Reading) → outcome_of r (run r sabmes_lost (new_pair 1 Enquiry)) ≡ both_in_4 1
unfolding computed_run
last_try_gone Whole = refl
last_try_gone Tagged = refl

pub waiting_release_gone : (r : Reading) → outcome_of r (run r release_waits (new_pair 1 Enquiry)) ≡ both_in_4 5
unfolding computed_run
waiting_release_gone Whole = refl
waiting_release_gone Tagged = refl

pub poll_met_is_wanted : (r : Reading) → IsWanted (run r poll_meets_sabme (new_pair 1 Enquiry))
unfolding computed_run
poll_met_is_wanted Whole = record { ends = record { mine = record { not_releasing = λ is. cc; none_pending = λ is. cc }; its = record { not_releasing = λ is. cc; none_pending = λ is. refl }; either = inl (inl refl) }; to_user = (refl, tt); to_network = (refl, tt) }
poll_met_is_wanted Tagged = record { ends = record { mine = record { not_releasing = λ is. cc; none_pending = λ is. cc }; its = record { not_releasing = λ is. cc; none_pending = λ is. refl }; either = inl (inl refl) }; to_user = (refl, tt); to_network = (refl, tt) }

pub release_goes_on : (r : Reading) → outcome_of r (run r disc_lost (new_pair 1 Enquiry)) ≡ both_in_4 3
unfolding computed_run
release_goes_on Whole = refl
release_goes_on Tagged = refl

pub dm_gone : (r : Reading) → AreWanting (run r dm_sent (new_pair 1 Enquiry)).user.end (run r dm_sent (new_pair 1 Enquiry)).network.end × (outcome_of r (run r dm_sent (new_pair 1 Enquiry)) ≡ both_in_4 1)
unfolding computed_run
dm_gone Whole = (record { mine = record { not_releasing = λ is. cc; none_pending = λ is. cc }; its = record { not_releasing = λ is. cc; none_pending = λ is. refl }; either = inr (inr (refl, omega arith)) }, refl)
dm_gone Tagged = (record { mine = record { not_releasing = λ is. cc; none_pending = λ is. cc }; its = record { not_releasing = λ is. cc; none_pending = λ is. refl }; either = inr (inr (refl, omega arith)) }, refl)

pub crossing_polls : (r : Reading)
    → (all_admitted r polls_cross (run r establishing (new_pair 1 Enquiry)) ≡ true)
    × (earlies_out_of_step r polls_cross (run r establishing (new_pair 1 Enquiry)) ≡ 0)
    × (outcome_despite r polls_cross (run r establishing (new_pair 1 Enquiry)) ≡ both_in_7 6 0 0)
unfolding computed_run
crossing_polls Whole = (refl, refl, refl)
crossing_polls Tagged = (refl, refl, refl)

pub polls_after_restart : (r : Reading)
    → (all_admitted r (polled_on r (run r network_restarts (new_pair 1 Enquiry)))
    (run r network_restarts (new_pair 1 Enquiry)) ≡ true)
    × (earlies_out_of_step r (polled_on r (run r network_restarts (new_pair 1 Enquiry)))
    (run r network_restarts (new_pair 1 Enquiry)) ≡ 0)
    × (outcome_despite r (polled_on r (run r network_restarts (new_pair 1 Enquiry)))
    (run r network_restarts (new_pair 1 Enquiry)) ≡ agreed_after 35)
unfolding computed_run
polls_after_restart Whole = (refl, refl, refl)
polls_after_restart Tagged = (refl, refl, refl)

pub t200_beside : (r : Reading) → (all_admitted r t200_beside_frames (run r eight_wait least_pair) ≡ true) × (outcome_of_least r t200_beside_frames (run r eight_wait least_pair) ≡ too_many_t200)
unfolding computed_run
t200_beside Whole = (refl, refl)
t200_beside Tagged = (refl, refl)

pub t203_first : (r : Reading) → (all_admitted r t203_before_t200 (run r network_sabme_lost least_pair) ≡ true) × (outcome_of_least r t203_before_t200 (run r network_sabme_lost least_pair) ≡ too_many_t203)
unfolding computed_run
t203_first Whole = (refl, refl)
t203_first Tagged = (refl, refl)

pub poll_met_is_free : (r : Reading) → IsFreeWorld 3 (run r poll_meets_sabme (new_pair 1 Enquiry))
unfolding computed_run
poll_met_is_free Whole = record { user_free = λ _. refl; network_free = λ _. refl; user_retries = omega arith; network_retries = omega arith }
poll_met_is_free Tagged = record { user_free = λ _. refl; network_free = λ _. refl; user_retries = omega arith; network_retries = omega arith }

pub rests_apart : (r : Reading) → next_move r (run r network_restarts (new_pair 1 Enquiry)) ≡ None
unfolding computed_run
rests_apart Whole = refl
rests_apart Tagged = refl

pub three_lost : (r : Reading) → AreOwnOrLosses r three_polls_lost (run r message_lost (new_pair 1 Enquiry)) × (outcome_despite r three_polls_lost (run r message_lost (new_pair 1 Enquiry)) ≡ both_in_7 9 0 1)
unfolding computed_run
three_lost Whole = ((record { due = refl; admitted = refl }, (record { due = refl; admitted = refl }, (record { due = refl; admitted = refl }, (record { due = refl; admitted = refl }, (record { due = refl; admitted = refl }, (record { due = refl; admitted = refl }, (record { due = refl; admitted = refl }, (record { due = refl; admitted = refl }, (record { due = refl; admitted = refl }, tt))))))))), refl)
three_lost Tagged = ((record { due = refl; admitted = refl }, (record { due = refl; admitted = refl }, (record { due = refl; admitted = refl }, (record { due = refl; admitted = refl }, (record { due = refl; admitted = refl }, (record { due = refl; admitted = refl }, (record { due = refl; admitted = refl }, (record { due = refl; admitted = refl }, (record { due = refl; admitted = refl }, tt))))))))), refl)

pub three_lost_by_last : (r : Reading) → AreOwnOrLosses r three_polls_lost (run r message_lost (new_pair 1 LastMessage)) × (outcome_despite r three_polls_lost (run r message_lost (new_pair 1 LastMessage)) ≡ both_in_7 9 0 1)
unfolding computed_run
three_lost_by_last Whole = ((record { due = refl; admitted = refl }, (record { due = refl; admitted = refl }, (record { due = refl; admitted = refl }, (record { due = refl; admitted = refl }, (record { due = refl; admitted = refl }, (record { due = refl; admitted = refl }, (record { due = refl; admitted = refl }, (record { due = refl; admitted = refl }, (record { due = refl; admitted = refl }, tt))))))))), refl)
three_lost_by_last Tagged = ((record { due = refl; admitted = refl }, (record { due = refl; admitted = refl }, (record { due = refl; admitted = refl }, (record { due = refl; admitted = refl }, (record { due = refl; admitted = refl }, (record { due = refl; admitted = refl }, (record { due = refl; admitted = refl }, (record { due = refl; admitted = refl }, (record { due = refl; admitted = refl }, tt))))))))), refl)

pub two_lost : (r : Reading) → OutlastLosses 2 (run r message_lost (new_pair 1 Enquiry)) × AreOwnOrLosses r two_polls_lost (run r message_lost (new_pair 1 Enquiry)) × (outcome_of_few r two_polls_lost (run r message_lost (new_pair 1 Enquiry)) ≡ both_in_7 9 1 0)
unfolding computed_run
two_lost Whole = (record { user = record { open_state = refl; free = λ _. refl; retries = omega arith; tries = λ is. cc }; network = record { open_state = refl; free = λ _. refl; retries = omega arith; tries = λ is. cc } }, (record { due = refl; admitted = refl }, (record { due = refl; admitted = refl }, (record { due = refl; admitted = refl }, (record { due = refl; admitted = refl }, (record { due = refl; admitted = refl }, (record { due = refl; admitted = refl }, (record { due = refl; admitted = refl }, (record { due = refl; admitted = refl }, (record { due = refl; admitted = refl }, tt))))))))), refl)
two_lost Tagged = (record { user = record { open_state = refl; free = λ _. refl; retries = omega arith; tries = λ is. cc }; network = record { open_state = refl; free = λ _. refl; retries = omega arith; tries = λ is. cc } }, (record { due = refl; admitted = refl }, (record { due = refl; admitted = refl }, (record { due = refl; admitted = refl }, (record { due = refl; admitted = refl }, (record { due = refl; admitted = refl }, (record { due = refl; admitted = refl }, (record { due = refl; admitted = refl }, (record { due = refl; admitted = refl }, (record { due = refl; admitted = refl }, tt))))))))), refl)

pub two_lost_by_last : (r : Reading) → OutlastLosses 2 (run r message_lost (new_pair 1 LastMessage)) × AreOwnOrLosses r two_polls_lost (run r message_lost (new_pair 1 LastMessage)) × (outcome_of_few r two_polls_lost (run r message_lost (new_pair 1 LastMessage)) ≡ both_in_7 9 1 0)
unfolding computed_run
two_lost_by_last Whole = (record { user = record { open_state = refl; free = λ _. refl; retries = omega arith; tries = λ is. cc }; network = record { open_state = refl; free = λ _. refl; retries = omega arith; tries = λ is. cc } }, (record { due = refl; admitted = refl }, (record { due = refl; admitted = refl }, (record { due = refl; admitted = refl }, (record { due = refl; admitted = refl }, (record { due = refl; admitted = refl }, (record { due = refl; admitted = refl }, (record { due = refl; admitted = refl }, (record { due = refl; admitted = refl }, (record { due = refl; admitted = refl }, tt))))))))), refl)
two_lost_by_last Tagged = (record { user = record { open_state = refl; free = λ _. refl; retries = omega arith; tries = λ is. cc }; network = record { open_state = refl; free = λ _. refl; retries = omega arith; tries = λ is. cc } }, (record { due = refl; admitted = refl }, (record { due = refl; admitted = refl }, (record { due = refl; admitted = refl }, (record { due = refl; admitted = refl }, (record { due = refl; admitted = refl }, (record { due = refl; admitted = refl }, (record { due = refl; admitted = refl }, (record { due = refl; admitted = refl }, (record { due = refl; admitted = refl }, tt))))))))), refl)
