use Rattle.std.proofs.Common.{sym, ap, ◌∙◌}
use Rattle.lapd_mod128.specs.Counting.{Tagged}
use Rattle.lapd_supervision.specs.StateVariables.{outstanding}
use Rattle.lapd_supervision.proofs.Outstanding.{outstanding_after_i_frame}
use Rattle.lapd_link_machine.proofs.machine.Machine.i_frame_ns.Goals as goal

pub returns-in-Some-clause-counted : goal.returns-in-Some-clause-counted
returns-in-Some-clause-counted c =
    λ counted. counted ∙ sym (ap (outstanding Tagged) (c.take_ns-window.ensures.window)
    ∙ outstanding_after_i_frame Tagged Tagged c.args.ns c.args.p c.args.self.now.window)

pub returns-in_default-clause-counted : goal.returns-in_default-clause-counted
returns-in_default-clause-counted c =
    λ counted. counted ∙ sym (ap (outstanding Tagged) (c.take_ns-window.ensures.window)
    ∙ outstanding_after_i_frame Tagged Tagged c.args.ns c.args.p c.args.self.now.window)
