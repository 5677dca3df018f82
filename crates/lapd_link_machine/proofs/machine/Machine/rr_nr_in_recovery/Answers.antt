use Rattle.std.proofs.Common.{rules}
use Rattle.lapd_link_definition.specs.TimerRecovery.{rr_nr_in_recovery}
use Rattle.lapd_link_machine.proofs.Rows.{then_row, else_row}
use Rattle.lapd_link_machine.proofs.machine.Machine.rr_nr_in_recovery.Goals as goal

pub returns-then-last-clause-step : goal.returns-then-last-clause-step
unfolding rr_nr_in_recovery
returns-then-last-clause-step c = search (rules, then_row, else_row)
