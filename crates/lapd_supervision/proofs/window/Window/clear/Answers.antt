use Rattle.std.proofs.Common.{rules}
use Rattle.lapd_supervision.specs.StateVariables.{without_exceptions, with_zero_counters}
use Rattle.lapd_supervision.proofs.window.Window.clear.Goals as goal

pub returns : goal.returns
unfolding without_exceptions with_zero_counters
returns c = search rules
