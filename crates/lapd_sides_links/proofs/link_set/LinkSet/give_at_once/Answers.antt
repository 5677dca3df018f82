-- give_at_once
use Rattle.std.proofs.Common.{[], arith}
use Rattle.lapd_link_definition.specs.Input.{Give}
use Rattle.lapd_link_machine.specs.Given.{given_outs}
use Rattle.lapd_sides_links.proofs.Acting.{appended, have_acted}
use Rattle.lapd_sides_links.proofs.Predictions.{none_given}
use Rattle.lapd_sides_links.proofs.link_set.LinkSet.give_at_once.Goals as goal

pub returns-in-Ok-clause-ok : goal.returns-in-Ok-clause-ok
returns-in-Ok-clause-ok c = λ side links shown.
    have_acted side c.args.self.now c.carry_out_given.new.self c.give_at_once_at.new.self links
    c.args.key.now.id c.args.now (Give c.args.message.items) []
    (given_outs c.in-Ok.outs) c.args.acts.now c.carry_out_given.new.acts c.in-Ok.ensures.ok
    c.carry_out_given.ensures.table
    c.carry_out_given.ensures.own c.carry_out_given.ensures.others c.carry_out_given.ensures.frames
    c.carry_out_given.ensures.primitives (omega arith) shown

pub returns-in-Ok-clause-appended : goal.returns-in-Ok-clause-appended
returns-in-Ok-clause-appended c =
    appended c.args.self.now.table c.give_at_once_at.new.self c.args.key.now.id _ []
    (given_outs c.in-Ok.outs) c.args.acts.now c.carry_out_given.new.acts c.in-Ok.ensures.ok
    c.carry_out_given.ensures.frames c.carry_out_given.ensures.primitives

pub returns-in-Err-clause-declined : goal.returns-in-Err-clause-declined
returns-in-Err-clause-declined c =
    none_given c.args.self.now c.args.key.now.id c.args.message.items c.in-Err.ensures.declined
