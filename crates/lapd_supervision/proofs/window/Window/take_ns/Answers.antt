use Rattle.std.proofs.Common.{rules}
use Rattle.lapd_supervision.specs.StateVariables.{is_accepted, is_rejected, after_i_frame, i_frame_response, poll_response, status_frame}
use Rattle.lapd_supervision.proofs.window.Window.take_ns.Goals as goal

pub returns-then-value-clause-window : goal.returns-then-value-clause-window
unfolding is_accepted is_rejected after_i_frame i_frame_response poll_response status_frame
returns-then-value-clause-window c = search rules

pub returns-then-value-clause-accepted : goal.returns-then-value-clause-accepted
unfolding is_accepted is_rejected after_i_frame i_frame_response poll_response status_frame
returns-then-value-clause-accepted c = search rules

pub returns-then-value-clause-answer : goal.returns-then-value-clause-answer
unfolding is_accepted is_rejected after_i_frame i_frame_response poll_response status_frame
returns-then-value-clause-answer c = search rules
