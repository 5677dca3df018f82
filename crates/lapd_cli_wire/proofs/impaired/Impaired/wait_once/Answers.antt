use Rattle.std.proofs.Common.{◌∙◌, ap}
use Rattle.lapd_timers.specs.Moments.{earlier}
use Rattle.lapd_cli_wire.proofs.SentLater.{waits_once}
use Rattle.lapd_cli_wire.proofs.impaired.Impaired.wait_once.Goals as goal

pub returns-clause-waits : goal.returns-clause-waits
returns-clause-waits g c =
    waits_once _ _ _ _ _ _ _ _ c.in_ok-send_due.ensures.sends
    (c.earlier-next.ensures ∙ ap (earlier c.args.until) c.next_moment.ensures)
    c.wait.ensures.io_events
