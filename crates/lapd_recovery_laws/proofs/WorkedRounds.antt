-- Worked rounds, computed in both readings.
use Rattle.std.proofs.Common.{true, refl}
use Rattle.lapd_mod128.specs.Counting.{Reading, Whole, Tagged}
use Rattle.lapd_pair_laws.specs.World.{run}
use Rattle.lapd_pair_laws.proofs.ComputedRun.{computed_run}
use Rattle.lapd_recovery_laws.specs.Recovered.{least_pair}
use Rattle.lapd_recovery_laws.specs.Rounds.{IsRound, idle_end, message_lost_again, losses_go_on, one_sent, t203_again, t203s_go_on, in_state_5, polled_again, busy_goes_on, one_waits}

pub losses_go_round : (r : Reading)
    → IsRound r 1 0 one_sent idle_end message_lost_again (run r losses_go_on least_pair)
unfolding computed_run
losses_go_round Whole = record { admitted = refl; lost_are = refl; early_are = refl; before = record { user_shows = refl; network_shows = refl; quiet = refl }; after = record { user_shows = refl; network_shows = refl; quiet = refl } }
losses_go_round Tagged = record { admitted = refl; lost_are = refl; early_are = refl; before = record { user_shows = refl; network_shows = refl; quiet = refl }; after = record { user_shows = refl; network_shows = refl; quiet = refl } }

pub t203s_go_round : (r : Reading)
    → IsRound r 0 1 idle_end in_state_5 t203_again (run r t203s_go_on least_pair)
unfolding computed_run
t203s_go_round Whole = record { admitted = refl; lost_are = refl; early_are = refl; before = record { user_shows = refl; network_shows = refl; quiet = refl }; after = record { user_shows = refl; network_shows = refl; quiet = refl } }
t203s_go_round Tagged = record { admitted = refl; lost_are = refl; early_are = refl; before = record { user_shows = refl; network_shows = refl; quiet = refl }; after = record { user_shows = refl; network_shows = refl; quiet = refl } }

pub busy_goes_round : (r : Reading)
    → IsRound r 0 0 one_waits (record idle_end { own_busy = true }) polled_again (run r busy_goes_on least_pair)
unfolding computed_run
busy_goes_round Whole = record { admitted = refl; lost_are = refl; early_are = refl; before = record { user_shows = refl; network_shows = refl; quiet = refl }; after = record { user_shows = refl; network_shows = refl; quiet = refl } }
busy_goes_round Tagged = record { admitted = refl; lost_are = refl; early_are = refl; before = record { user_shows = refl; network_shows = refl; quiet = refl }; after = record { user_shows = refl; network_shows = refl; quiet = refl } }
