use Rattle.lapd_sides_links.proofs.WrittenOver.{has_frame, frame_left, least_left, left_begins, left_ends}
use Rattle.lapd_sides_links.proofs.acts.Acts.remove_frame.Goals as goal

pub remove_first-requires : goal.remove_first-requires
remove_first-requires c =
    has_frame c.self.inside.frames.items c.self.inside.first_frame c.self.inside.frames_end
    c.self.invariant.frames_end (rw (← c.self.view_is) at c.requires)

pub invariant_of-self : goal.invariant_of-self
invariant_of-self c =
    let fits = c.self.invariant in
    let removed = c.remove_first in
    let some =
    has_frame c.self.inside.frames.items c.self.inside.first_frame c.self.inside.frames_end
    fits.frames_end (rw (← c.self.view_is) at c.requires) in
    record {
      frame_room = fits.frame_room;
      primitive_room = fits.primitive_room;
      frames_begin =
          left_begins c.self.inside.first_frame c.self.inside.frames_end removed.new.first
          removed.new.end some removed.ensures;
      frames_end =
          left_ends c.self.inside.first_frame c.self.inside.frames_end removed.new.first
          removed.new.end _ fits.frames_end removed.ensures;
      primitives_begin = fits.primitives_begin;
      primitives_end = fits.primitives_end;
      least =
          least_left c.self.inside.frames.items c.self.inside.first_frame c.self.inside.frames_end
          removed.new.first removed.new.end fits.frames_end removed.ensures fits.least;
    }

pub returns : goal.returns
returns c =
    rw (← c.self.view_is) (frame_left c.self.inside.frames.items c.self.inside.first_frame
    c.self.inside.frames_end c.remove_first.new.first c.remove_first.new.end _
    c.self.invariant.frames_end c.remove_first.ensures)
