use Rattle.std.proofs.Common.{sym, ap, ◌∙◌, List, ◌++◌, append-nil}
use Rattle.lapd_link_definition.specs.declared.out.Out.{Out}
use Rattle.lapd_link_definition.specs.declared.out.Out.TheVariants.{Acknowledged}
use Rattle.lapd_link_machine.proofs.Tails.{counted_above, counted_none}
use Rattle.lapd_link_machine.proofs.Predicted.{same_outs}
use Rattle.lapd_link_machine.proofs.machine.Machine.acknowledge.Goals as goal

pub returns-then-count-gt0-clause-step : goal.returns-then-count-gt0-clause-step
returns-then-count-gt0-clause-step c = λ s h. same_outs _ _ _ _
    (ap (λ (l : List Out). c.args.outs.now.items ++ l)
    (counted_above c.acknowledge_returning-count.result Acknowledged c.if-count-gt0.true)
    ∙ sym c.push.ensures.items)
    (c.acknowledge_returning-count.ensures.step s _ h)

pub returns-else-count-gt0-clause-step : goal.returns-else-count-gt0-clause-step
returns-else-count-gt0-clause-step c = λ s h. same_outs _ _ _ _
    (ap (λ (l : List Out). c.args.outs.now.items ++ l)
    (counted_none c.acknowledge_returning-count.result Acknowledged c.if-count-gt0.false)
    ∙ append-nil _)
    (c.acknowledge_returning-count.ensures.step s _ h)
