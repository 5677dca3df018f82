use Rattle.lapd_pair_laws.proofs.Reached.{every_eager_run_safe, every_eager_run_reports, every_eager_run_is_due, every_eager_run_is_fresh}
use Rattle.lapd_pair_laws.proofs.every_run.every_eager_run_is_safe.Goals as goal

pub returns : goal.returns
returns c = record {
  safe = every_eager_run_safe;
  reports = every_eager_run_reports;
  due = every_eager_run_is_due;
  fresh = every_eager_run_is_fresh;
}
