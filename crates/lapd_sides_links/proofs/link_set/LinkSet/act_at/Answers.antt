-- act_at
use Rattle.lapd_link_definition.specs.Input.{input_of}
use Rattle.lapd_sides_links.proofs.Acting.{refuses, have_acted}
use Rattle.lapd_sides_links.proofs.link_set.LinkSet.act_at.Goals as goal

pub returns-in-Ok-clause-ok : goal.returns-in-Ok-clause-ok
returns-in-Ok-clause-ok c = λ side links shown.
    have_acted side c.args.self.now c.carry_out.new.self c.handle_at.new.self links
    c.args.key.now.id c.args.now
    (input_of c.args.event) c.args.octets.now c.handle_at.new.outs.items c.args.acts.now
    c.carry_out.new.acts
    c.in-Ok.ensures.ok c.carry_out.ensures.table c.carry_out.ensures.own c.carry_out.ensures.others
    c.carry_out.ensures.frames c.carry_out.ensures.primitives c.requires.fits shown

pub returns-in-Err-clause-err : goal.returns-in-Err-clause-err
returns-in-Err-clause-err c =
    λ side links shown. refuses side c.args.self.now links c.args.key.now.id c.args.now
    (input_of c.args.event) c.args.octets.now c.in-Err.fault c.in-Err.ensures.err shown
