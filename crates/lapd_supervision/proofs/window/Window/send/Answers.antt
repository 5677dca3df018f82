use Rattle.std.proofs.Common.{rules}
use Rattle.lapd_supervision.specs.StateVariables.{next_i_frame, after_sending, without_ack_pending}
use Rattle.lapd_supervision.proofs.window.Window.send.Goals as goal

pub returns-clause-window : goal.returns-clause-window
unfolding next_i_frame after_sending without_ack_pending
returns-clause-window c = search rules
