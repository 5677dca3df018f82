use Rattle.lapd_program_laws.proofs.Joins.{both_run, lines_of_network, lines_of_user}
use Rattle.lapd_program_laws.proofs.SafeRuns.{run_safely}
use Rattle.lapd_program_laws.proofs.laws.joined_programs_are_safe.Goals as goal

pub returns : goal.returns
returns c = record {
  run_together = both_run;
  safe = run_safely;
  network_lines = lines_of_network;
  user_lines = lines_of_user;
}
