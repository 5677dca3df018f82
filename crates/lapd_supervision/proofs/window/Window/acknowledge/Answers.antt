use Rattle.std.proofs.Common.{rules}
use Rattle.lapd_supervision.specs.StateVariables.{status_frame, acknowledgement, without_ack_pending}
use Rattle.lapd_supervision.proofs.window.Window.acknowledge.Goals as goal

pub returns-clause-control : goal.returns-clause-control
unfolding status_frame acknowledgement without_ack_pending
returns-clause-control c = search rules
