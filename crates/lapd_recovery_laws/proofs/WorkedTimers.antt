-- Worked runs with early timers, computed in both readings.
use Rattle.std.proofs.Common.{◌≡◌, inl, true, refl, arith}
use Rattle.lapd_mod128.specs.Counting.{Reading, Whole, Tagged}
use Rattle.lapd_pair_laws.specs.Schedule.{establishing}
use Rattle.lapd_pair_laws.specs.World.{run}
use Rattle.lapd_pair_laws.proofs.ComputedRun.{computed_run}
use Rattle.lapd_recovery_laws.specs.FewLosses.{t200s, most_t200s, OutlastLosses}
use Rattle.lapd_recovery_laws.specs.Recovered.{both_in_7, agreed_after, least_pair, all_admitted, eight_wait, t200_beside_frames, network_sabme_lost, t203_before_t200}
use Rattle.lapd_recovery_laws.specs.WantedLine.{IsWanted}
use Rattle.lapd_recovery_laws.specs.Untimely.{untimely, outcome_of_line, t203_counted, message_sent, t200_overtakes, outcome_of_open, eight_given, t200_beside_each, seven_idle_polls}

pub t200_counts : (r : Reading)
    → (untimely r t200_beside_frames (run r eight_wait least_pair)
    ≡ record { lost = 0; early = 9; late = 0 })
    × (outcome_of_line r t200_beside_frames (run r eight_wait least_pair) ≡ both_in_7 48 8 0)
unfolding computed_run
t200_counts Whole = (refl, refl)
t200_counts Tagged = (refl, refl)

pub wanted_meanwhile : (r : Reading) → IsWanted (run r eight_wait least_pair)
unfolding computed_run
wanted_meanwhile Whole = record { ends = record { mine = record { not_releasing = λ is. cc; none_pending = λ is. cc }; its = record { not_releasing = λ is. cc; none_pending = λ is. refl }; either = inl (inl refl) }; to_user = tt; to_network = tt }
wanted_meanwhile Tagged = record { ends = record { mine = record { not_releasing = λ is. cc; none_pending = λ is. cc }; its = record { not_releasing = λ is. cc; none_pending = λ is. refl }; either = inl (inl refl) }; to_user = tt; to_network = tt }

pub t203_counts : (r : Reading)
    → (untimely r t203_before_t200 (run r network_sabme_lost least_pair)
    ≡ record { lost = 0; early = 4; late = 0 })
    × (outcome_of_line r t203_before_t200 (run r network_sabme_lost least_pair) ≡ t203_counted)
unfolding computed_run
t203_counts Whole = (refl, refl)
t203_counts Tagged = (refl, refl)

pub overtakes : (r : Reading)
    → (all_admitted r t200_overtakes (run r message_sent least_pair) ≡ true)
    × (untimely r t200_overtakes (run r message_sent least_pair)
    ≡ record { lost = 1; early = 2; late = 1 })
    × (outcome_of_line r t200_overtakes (run r message_sent least_pair) ≡ both_in_7 7 1 1)
unfolding computed_run
overtakes Whole = (refl, refl, refl)
overtakes Tagged = (refl, refl, refl)

pub t200_beside_each_counts : (r : Reading)
    → OutlastLosses 0 (run r eight_given least_pair)
    × (all_admitted r t200_beside_each (run r eight_given least_pair) ≡ true)
    × (t200s t200_beside_each ≡ 8) × (most_t200s 0 (run r eight_given least_pair) ≡ 19)
    × (outcome_of_open r 0 t200_beside_each (run r eight_given least_pair) ≡ both_in_7 40 8 0)
unfolding computed_run
t200_beside_each_counts Whole = (record { user = record { open_state = refl; free = λ _. refl; retries = omega arith; tries = λ is. cc }; network = record { open_state = refl; free = λ _. refl; retries = omega arith; tries = λ is. cc } }, refl, refl, refl, refl)
t200_beside_each_counts Tagged = (record { user = record { open_state = refl; free = λ _. refl; retries = omega arith; tries = λ is. cc }; network = record { open_state = refl; free = λ _. refl; retries = omega arith; tries = λ is. cc } }, refl, refl, refl, refl)

pub idle_polls_count : (r : Reading)
    → OutlastLosses 0 (run r establishing least_pair)
    × (all_admitted r seven_idle_polls (run r establishing least_pair) ≡ true)
    × (outcome_of_open r 0 seven_idle_polls (run r establishing least_pair) ≡ agreed_after 21)
    × (outcome_of_open r 7 seven_idle_polls (run r establishing least_pair) ≡ both_in_7 21 0 0)
unfolding computed_run
idle_polls_count Whole = (record { user = record { open_state = refl; free = λ _. refl; retries = omega arith; tries = λ is. cc }; network = record { open_state = refl; free = λ _. refl; retries = omega arith; tries = λ is. cc } }, refl, refl, refl)
idle_polls_count Tagged = (record { user = record { open_state = refl; free = λ _. refl; retries = omega arith; tries = λ is. cc }; network = record { open_state = refl; free = λ _. refl; retries = omega arith; tries = λ is. cc } }, refl, refl, refl)
