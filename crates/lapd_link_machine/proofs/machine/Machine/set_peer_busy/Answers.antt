use Rattle.std.proofs.Common.{sym, ap, ◌∙◌}
use Rattle.lapd_mod128.specs.Counting.{Tagged}
use Rattle.lapd_supervision.specs.StateVariables.{outstanding}
use Rattle.lapd_supervision.proofs.Outstanding.{outstanding_with_peer_busy}
use Rattle.lapd_link_machine.proofs.machine.Machine.set_peer_busy.Goals as goal

pub returns-clause-counted : goal.returns-clause-counted
returns-clause-counted c =
    λ counted. counted ∙ sym (ap (outstanding Tagged) (c.peer-self.ensures)
    ∙ outstanding_with_peer_busy Tagged c.args.on c.args.self.now.window)
