-- The schedule with a quick restart, computed in both readings; and restarts that an exchange of the
-- side outlasts.
use Rattle.std.proofs.Common.{◌≡◌, refl}
use Rattle.lapd_mod128.specs.Counting.{Reading, Whole, Tagged}
use Rattle.lapd_pair_laws.specs.Move.{Deliver}
use Rattle.lapd_pair_laws.specs.Premises.{Admitted, freely, run_freely}
use Rattle.lapd_pair_laws.specs.Reports.{ReportsExpected}
use Rattle.lapd_pair_laws.specs.Schedule.{figures, of_network}
use Rattle.lapd_pair_laws.specs.Schedule as worked
use Rattle.lapd_recovery_laws.specs.QuickRestart.{restarts_quickly, happens_quickly, run_quickly, across_a_restart, user_at_end, network_at_end, with_a_command, with_an_answer}
use Rattle.lapd_pair_laws.proofs.ComputedRun.{computed_run}

pub ending_user : (r : Reading)
    → figures (run_quickly r across_a_restart worked.start).user ≡ user_at_end
unfolding computed_run happens_quickly restarts_quickly
ending_user Whole = refl
ending_user Tagged = refl

pub ending_network : (r : Reading)
    → figures (run_quickly r across_a_restart worked.start).network ≡ network_at_end
unfolding computed_run happens_quickly restarts_quickly
ending_network Whole = refl
ending_network Tagged = refl

pub a_command_outlasts : ReportsExpected
    (freely (Admitted (of_network Deliver)) (run_freely with_a_command worked.start)) → ⊥
unfolding computed_run
a_command_outlasts e = e.0

pub an_answer_outlasts : ReportsExpected
    (freely (Admitted (of_network Deliver)) (run_freely with_an_answer worked.start)) → ⊥
unfolding computed_run
an_answer_outlasts e = e.0
