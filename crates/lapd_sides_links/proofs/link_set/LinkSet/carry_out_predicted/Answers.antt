use Rattle.std.proofs.Common.{sym, ◌∙◌}
use Rattle.lapd_table.specs.LinkId.{setup_for}
use Rattle.lapd_sides_links.proofs.PredictedSteps.{predicted_frames_put, predicted_primitives_put, predicted_timed}
use Rattle.lapd_sides_links.proofs.link_set.LinkSet.carry_out_predicted.Goals as goal

pub returns-clause-frames : goal.returns-clause-frames
returns-clause-frames c = λ link e there represented.
    let octets = c.args.octets.now in
    rw (sym c.id-id.ensures, sym c.side-from.ensures)
    (predicted_frames_put (setup_for c.side-from.result c.id-id.result.now) e octets c.args.outs.now
    _ _ _ _ _ (c.put_response.ensures.frames e octets) c.deliver_message.ensures.frames
    c.deliver_acknowledged.ensures.frames (c.put_response-2.ensures.frames e octets))

pub returns-clause-primitives : goal.returns-clause-primitives
returns-clause-primitives c =
    rw (sym c.id-id.ensures) (predicted_primitives_put c.id-id.result.now c.args.octets.now
    c.args.outs.now _ _ _ _ _ c.put_response.ensures.primitives
    c.deliver_message.ensures.primitives
    (c.deliver_acknowledged.ensures.primitives c.args.octets.now)
    c.put_response-2.ensures.primitives)

pub returns-clause-own : goal.returns-clause-own
returns-clause-own c =
    rw (sym c.id-id.ensures) (c.apply_nr.ensures.own ∙ predicted_timed c.args.now c.args.outs.now _)
