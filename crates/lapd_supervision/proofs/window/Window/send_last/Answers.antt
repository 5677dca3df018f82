use Rattle.std.proofs.Common.{rules}
use Rattle.lapd_supervision.specs.StateVariables.{last_i_frame, without_ack_pending}
use Rattle.lapd_supervision.proofs.window.Window.send_last.Goals as goal

pub returns-clause-control : goal.returns-clause-control
unfolding last_i_frame without_ack_pending
returns-clause-control c = search rules
