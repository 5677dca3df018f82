use Rattle.lapd_cli_wire.proofs.SentLater.{puts_off}
use Rattle.lapd_cli_wire.proofs.impaired.ImpairedOutside.send.Goals as goal

pub returns-clause-passes : goal.returns-clause-passes
returns-clause-passes g c =
    puts_off _ _ _ _ _ _ _ _ c.draw.ensures c.if-draw.false c.is_direct.ensures c.if-is_direct.false
    c.in_ok-put_off.ensures.puts_off
