use Rattle.lapd_cli_wire.proofs.SentLater.{receives}
use Rattle.lapd_cli_wire.proofs.impaired.ImpairedOutside.receive.Goals as goal

pub returns-clause-does : goal.returns-clause-does
returns-clause-does g c =
    receives _ _ _ _ _ _ _ c.in_ok-send_due.ensures.sends c.receive.ensures.io_events
