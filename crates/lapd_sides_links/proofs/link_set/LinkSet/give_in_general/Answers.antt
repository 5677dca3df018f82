-- give_in_general
use Rattle.std.proofs.Common.{[], Err, sym, ap, ◌∙◌, arith}
use Rattle.lapd_link_definition.specs.Input.{Give}
use Rattle.lapd_sides_links.proofs.Acting.{refuses, have_acted}
use Rattle.lapd_sides_links.proofs.link_set.LinkSet.give_in_general.Goals as goal

pub returns-in-Ok-clause-ok : goal.returns-in-Ok-clause-ok
returns-in-Ok-clause-ok c = λ side links shown.
    have_acted side c.args.self.now c.carry_out.new.self c.give_at.new.self links c.args.key.now.id
    c.args.now (Give c.args.message.items) []
    c.give_at.new.outs.items c.args.acts.now c.carry_out.new.acts c.in-Ok.ensures.ok
    c.carry_out.ensures.table
    c.carry_out.ensures.own c.carry_out.ensures.others c.carry_out.ensures.frames
    c.carry_out.ensures.primitives (omega arith) shown

pub returns-in-Err-clause-err : goal.returns-in-Err-clause-err
returns-in-Err-clause-err c = λ side links shown.
    refuses side c.args.self.now links c.args.key.now.id c.args.now (Give c.args.message.items) []
    c.in-Err.back.fault c.in-Err.ensures.err shown
    ∙ ap (λ kind. Err kind) (sym c.refused.ensures.kind)
