use Rattle.std.proofs.Common.{rules}
use Rattle.lapd_supervision.specs.StateVariables.{may_send}
use Rattle.lapd_supervision.proofs.window.Window.may_send.Goals as goal

pub returns-then-not-self : goal.returns-then-not-self
unfolding may_send
returns-then-not-self c = search rules
