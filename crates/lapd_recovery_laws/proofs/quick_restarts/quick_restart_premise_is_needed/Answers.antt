use Rattle.lapd_recovery_laws.proofs.QuickSchedule.{a_command_outlasts, an_answer_outlasts}
use Rattle.lapd_recovery_laws.proofs.quick_restarts.quick_restart_premise_is_needed.Goals as goal

pub returns : goal.returns
returns c = record { command = a_command_outlasts; answer = an_answer_outlasts }
