use Rattle.lapd_frame.specs.PredictedFrame.{predicted_control, predicted_role}
use Rattle.lapd_link_definition.specs.Input.{Heard}
use Rattle.lapd_link_machine.specs.Predicted.{predicted_outs}
use Rattle.lapd_sides_links.proofs.Acting.{appended, have_acted}
use Rattle.lapd_sides_links.proofs.Predictions.{none_taken}
use Rattle.lapd_sides_links.proofs.link_set.LinkSet.act_predicted_at.Goals as goal

pub returns-in-Some-clause-ok : goal.returns-in-Some-clause-ok
returns-in-Some-clause-ok c = λ is side links shown.
    have_acted side c.args.self.now c.carry_out_predicted.new.self c.predicted_step_at.new.self
    links
    c.args.key.now.id c.args.now
    (Heard (predicted_control c.args.kind c.args.nr) (predicted_role c.args.kind)) c.args.info.now
    (predicted_outs c.in-Some.outs) c.args.acts.now c.carry_out_predicted.new.acts
    c.in-Some.ensures.ok c.carry_out_predicted.ensures.table c.carry_out_predicted.ensures.own
    c.carry_out_predicted.ensures.others c.carry_out_predicted.ensures.frames
    c.carry_out_predicted.ensures.primitives c.requires.fits shown

pub returns-in-Some-clause-appended : goal.returns-in-Some-clause-appended
returns-in-Some-clause-appended c = λ is.
    appended c.args.self.now.table c.predicted_step_at.new.self c.args.key.now.id _
    c.args.info.now (predicted_outs c.in-Some.outs) c.args.acts.now
    c.carry_out_predicted.new.acts c.in-Some.ensures.ok c.carry_out_predicted.ensures.frames
    c.carry_out_predicted.ensures.primitives

pub returns-in-None-clause-declined : goal.returns-in-None-clause-declined
returns-in-None-clause-declined c = λ is.
    none_taken c.args.self.now c.args.key.now.id (predicted_control c.args.kind c.args.nr)
    (predicted_role c.args.kind) c.in-None.ensures.declined
