-- The messages that are sent at once, and their outputs, which are returned as values in place of a
-- list.
use Rattle.std.specs.Prelude.{ℕ, ◌==◌, ◌&&◌, not, Bool, is_some, List, [], ◌∷◌, ◌++◌}
use Rattle.lapd_frame.specs.Control.{field_of_message}
use Rattle.lapd_mod128.specs.Counting.{Tagged}
use Rattle.lapd_supervision.specs.StateVariables.{may_send}
use Rattle.lapd_timers.specs.declared.timer.Timer.TheVariants.{T200, T203}
use Rattle.lapd_link_definition.specs.declared.out.Out.{Out}
use Rattle.lapd_link_definition.specs.declared.out.Out.TheVariants.{SendMessage, Start, Stop}
use Rattle.lapd_link_definition.specs.End.{End, waiting}
use Rattle.lapd_link_definition.specs.Input.{Give}
use Rattle.lapd_link_definition.specs.Procedures.{out_where}
use Rattle.lapd_link_definition.specs.Refusal.{refused}
use Rattle.lapd_link_machine.specs.declared.machine.given.GivenOuts.{GivenOuts}
use Rattle.lapd_link_machine.specs.declared.machine.given.SendEffect.{SendEffect}
use Rattle.lapd_link_machine.specs.declared.machine.given.SendEffect.TheVariants.{Nothing, Starts}
use Rattle.lapd_link_machine.specs.Predicted.{is_idle}

-- ---- The messages that are sent at once.

-- a queued message is sent at once: no other is unsent in state 7, the window is open, and the
-- queue has room for it (Q.921 5.6.1)
abbrev pub sends_at_once : End → Bool
sends_at_once e = is_idle e
    && (may_send Tagged e.parameters.k e.window && not (waiting e == e.parameters.room))

-- this message is not refused, and sent at once
abbrev pub is_sent_at_once : List ℕ → End → Bool
is_sent_at_once message e = sends_at_once e && not (is_some (refused (Give message) e))

-- ---- The outputs.

-- the outputs of a sent I frame for the timers
abbrev pub send_outs : SendEffect → List Out
send_outs Nothing = []
send_outs (Starts stops) = out_where stops (Stop T203) ++ Start T200 ∷ []

-- the outputs of the step
abbrev pub given_outs : GivenOuts → List Out
given_outs g = SendMessage g.place (field_of_message g.field) ∷ [] ++ send_outs g.effect
