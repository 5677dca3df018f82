use Rattle.lapd_pair_laws.proofs.NextDue.{due_by_invariant}
use Rattle.lapd_pair_laws.proofs.Freshness.{fresh_by_invariant}
use Rattle.lapd_pair_laws.proofs.Nearness.{within_by_invariant}
use Rattle.lapd_pair_laws.proofs.Reached.{near_moves}
use Rattle.lapd_pair_laws.proofs.Whole.{each_report_is_expected}
use Rattle.lapd_pair_laws.proofs.Worlds.{safe_by_invariant}
use Rattle.lapd_pair_laws.proofs.every_run.the_invariant_gives_safe.Goals as goal

pub returns : goal.returns
returns c = record {
  safe = safe_by_invariant;
  reports = each_report_is_expected;
  due = due_by_invariant;
  fresh = fresh_by_invariant;
  within = within_by_invariant;
  near = near_moves;
}
