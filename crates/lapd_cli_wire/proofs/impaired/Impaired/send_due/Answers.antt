use Rattle.lapd_cli_wire.proofs.SentLater.{due_sent, more_sent}
use Rattle.lapd_cli_wire.proofs.impaired.Impaired.send_due.Goals as goal

pub loop-frame-preserved : goal.loop-frame-preserved
loop-frame-preserved g c =
    more_sent _ _ _ _ _ _ _ _ _ c.loop-frame.invariant c.in-Some.ensures.some.0
    c.in-Some.ensures.some.1 c.as_slice.ensures.value c.in_ok-send.ensures.io_events

pub returns-clause-sends : goal.returns-clause-sends
returns-clause-sends g c =
    due_sent _ _ _ _ _ _ _ c.in_ok-now.ensures.io_events c.loop-frame.invariant
    c.in_default.ensures.none.0 c.in_default.ensures.none.1
