-- carry_out
use Rattle.lapd_sides_links.proofs.Acting.{frames_put}
use Rattle.lapd_sides_links.proofs.link_set.LinkSet.carry_out.Goals as goal

pub returns-clause-frames : goal.returns-clause-frames
returns-clause-frames c = λ link e there represented.
    frames_put c.args.self.now.table c.args.key.now.id link c.link_at.result.now e c.args.octets.now
    _ _ c.args.acts.now.frames _ _
    there c.link_at.ensures.value c.link_at.ensures.setup represented c.put_frames.ensures.frames
    c.as_slice-outs.ensures.value c.deliver_all.ensures.frames
