use Rattle.std.proofs.Common.{sym, ap, subst}
use Rattle.lapd_sides_links.proofs.WrittenOver.{AllLeast, octets_of, slice_in_use}
use Rattle.lapd_sides_links.proofs.acts.Acts.frames.Goals as goal

pub returns-clause-frames : goal.returns-clause-frames
returns-clause-frames c = rw (c.deref.ensures.value, ← c.self.view_is)
    (ap octets_of (slice_in_use c.self.inside.frames.items c.self.inside.first_frame
    c.self.inside.frames_end c.self.invariant.frames_begin))

pub returns-clause-least : goal.returns-clause-least
returns-clause-least c = rw c.deref.ensures.value (subst AllLeast
    (sym (slice_in_use c.self.inside.frames.items c.self.inside.first_frame c.self.inside.frames_end
    c.self.invariant.frames_begin)) c.self.invariant.least)
