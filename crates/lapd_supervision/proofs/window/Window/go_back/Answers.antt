use Rattle.std.proofs.Common.{rules}
use Rattle.lapd_supervision.specs.StateVariables.{with_vs}
use Rattle.lapd_supervision.proofs.window.Window.go_back.Goals as goal

pub returns : goal.returns
unfolding with_vs
returns c = search rules
