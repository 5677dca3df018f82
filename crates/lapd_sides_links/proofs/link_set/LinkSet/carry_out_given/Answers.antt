use Rattle.std.proofs.Common.{[], refl, sym, ◌∙◌}
use Rattle.lapd_link_machine.specs.Given.{given_outs}
use Rattle.lapd_link.specs.Link.{setup_of}
use Rattle.lapd_sides_links.proofs.Acting.{frames_put}
use Rattle.lapd_sides_links.proofs.GivenSteps.{given_frames_put, given_primitives_put, given_timed}
use Rattle.lapd_sides_links.proofs.link_set.LinkSet.carry_out_given.Goals as goal

pub returns-clause-frames : goal.returns-clause-frames
returns-clause-frames c = λ link e there represented.
    let g = c.args.outs.now in
    let found = c.link_at.result.now in
    frames_put c.args.self.now.table c.args.key.now.id link found e [] (given_outs g) (given_outs g)
    c.args.acts.now.frames _ _
    there c.link_at.ensures.value c.link_at.ensures.setup represented
    (λ e shown. given_frames_put (setup_of found) e
    [] g _ _ (c.put_message_frame.ensures.frames e [] shown)) refl refl

pub returns-clause-primitives : goal.returns-clause-primitives
returns-clause-primitives c =
    given_primitives_put c.args.key.now.id c.args.outs.now _ _
    c.put_message_frame.ensures.primitives

pub returns-clause-own : goal.returns-clause-own
returns-clause-own c =
    rw (sym c.id.ensures) (c.apply_send.ensures.own ∙ given_timed c.args.now c.args.outs.now _)
