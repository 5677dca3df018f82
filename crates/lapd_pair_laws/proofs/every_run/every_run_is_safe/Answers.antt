use Rattle.lapd_pair_laws.proofs.Reached.{every_run_safe, every_run_reports, every_run_is_due}
use Rattle.lapd_pair_laws.proofs.every_run.every_run_is_safe.Goals as goal

pub returns : goal.returns
returns c = record { safe = every_run_safe; reports = every_run_reports; due = every_run_is_due }
