use Rattle.lapd_recovery_laws.proofs.QuickRuns.{every_quick_run_safe, every_quick_run_reports, every_quick_run_is_due, every_quick_run_is_fresh}
use Rattle.lapd_recovery_laws.proofs.quick_restarts.every_run_with_quick_restarts_is_safe.Goals as goal

pub returns : goal.returns
returns c = record {
  safe = every_quick_run_safe;
  reports = every_quick_run_reports;
  due = every_quick_run_is_due;
  fresh = every_quick_run_is_fresh;
}
