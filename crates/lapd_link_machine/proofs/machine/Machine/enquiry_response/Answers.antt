use Rattle.std.proofs.Common.{sym, ap, ◌∙◌}
use Rattle.lapd_mod128.specs.Counting.{Tagged}
use Rattle.lapd_supervision.specs.StateVariables.{outstanding}
use Rattle.lapd_supervision.proofs.Outstanding.{outstanding_without_ack_pending}
use Rattle.lapd_link_machine.proofs.machine.Machine.enquiry_response.Goals as goal

pub returns-clause-counted : goal.returns-clause-counted
returns-clause-counted c =
    λ counted. counted ∙ sym (ap (outstanding Tagged) (c.answer_poll-window.ensures.window)
    ∙ outstanding_without_ack_pending Tagged c.args.self.now.window)
