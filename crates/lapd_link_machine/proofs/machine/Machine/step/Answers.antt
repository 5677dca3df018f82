use Rattle.std.proofs.Common.{length, ap, arith}
use Rattle.lapd_link_definition.specs.EndOfStep.{is_established}
use Rattle.lapd_link_definition.specs.Input.{input_of}
use Rattle.lapd_link_machine.proofs.Bounds.{bounded}
use Rattle.lapd_link_machine.proofs.machine.Machine.step.Goals as goal

pub returns-clause-bounded : goal.returns-clause-bounded
returns-clause-bounded c =
    let few = c.row.ensures.len in
    let none = ap length c.requires.empty in
    bounded (input_of c.args.event) (is_established c.row.new.self.state) c.row.new.outs.items
    c.end_step.new.outs.items
    (omega (arith, few, none)) c.row.ensures.state c.end_step.ensures.len c.end_step.ensures.few
    c.end_step.ensures.untold
