use Rattle.lapd_follow.proofs.Directions.{nr_is_valid, ns_is_in_window}
use Rattle.lapd_follow.proofs.learning_laws.known_numbers_give_no_violation.Goals as goal

pub returns-clause-nr : goal.returns-clause-nr
returns-clause-nr c = nr_is_valid

pub returns-clause-window : goal.returns-clause-window
returns-clause-window c = ns_is_in_window
