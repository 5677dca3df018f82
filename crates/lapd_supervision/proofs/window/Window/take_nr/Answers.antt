use Rattle.std.proofs.Common.{rules}
use Rattle.lapd_supervision.specs.StateVariables.{is_valid_nr, with_va, acknowledged_count, acknowledges_all}
use Rattle.lapd_supervision.proofs.window.Window.take_nr.Goals as goal

pub returns-then-within-clause-valid : goal.returns-then-within-clause-valid
unfolding is_valid_nr with_va acknowledged_count acknowledges_all
returns-then-within-clause-valid c = search rules

pub returns-then-within-clause-count : goal.returns-then-within-clause-count
unfolding is_valid_nr with_va acknowledged_count acknowledges_all
returns-then-within-clause-count c = search rules
