use Rattle.std.proofs.Common.{rules}
use Rattle.lapd_supervision.specs.StateVariables.{status_frame, acknowledgement, without_ack_pending}
use Rattle.lapd_supervision.proofs.window.Window.status.Goals as goal

pub returns-then-self : goal.returns-then-self
unfolding status_frame acknowledgement without_ack_pending
returns-then-self c = search rules
