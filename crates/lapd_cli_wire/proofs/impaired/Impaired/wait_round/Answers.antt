use Rattle.lapd_cli_wire.proofs.SentLater.{round}
use Rattle.lapd_cli_wire.proofs.impaired.Impaired.wait_round.Goals as goal

pub returns-clause-round : goal.returns-clause-round
returns-clause-round g c =
    round _ _ _ _ _ _ _ _ _ c.in_ok-woken.ensures.waits c.in_ok-is_over.ensures.delays
    c.in_ok-is_over.ensures.over
