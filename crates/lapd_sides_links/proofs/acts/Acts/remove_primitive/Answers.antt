use Rattle.lapd_sides_links.proofs.WrittenOver.{has_primitive, primitive_left, left_begins, left_ends}
use Rattle.lapd_sides_links.proofs.acts.Acts.remove_primitive.Goals as goal

pub remove_first-requires : goal.remove_first-requires
remove_first-requires c =
    has_primitive c.self.inside.primitives.items c.self.inside.first_primitive
    c.self.inside.primitives_end c.self.invariant.primitives_end
    (rw (← c.self.view_is) at c.requires)

pub invariant_of-self : goal.invariant_of-self
invariant_of-self c =
    let fits = c.self.invariant in
    let removed = c.remove_first in
    let some =
    has_primitive c.self.inside.primitives.items c.self.inside.first_primitive
    c.self.inside.primitives_end fits.primitives_end
    (rw (← c.self.view_is) at c.requires) in
    record {
      frame_room = fits.frame_room;
      primitive_room = fits.primitive_room;
      frames_begin = fits.frames_begin;
      frames_end = fits.frames_end;
      primitives_begin =
          left_begins c.self.inside.first_primitive c.self.inside.primitives_end removed.new.first
          removed.new.end some removed.ensures;
      primitives_end =
          left_ends c.self.inside.first_primitive c.self.inside.primitives_end removed.new.first
          removed.new.end _ fits.primitives_end removed.ensures;
      least = fits.least;
    }

pub returns : goal.returns
returns c =
    rw (← c.self.view_is) (primitive_left c.self.inside.primitives.items
    c.self.inside.first_primitive c.self.inside.primitives_end c.remove_first.new.first
    c.remove_first.new.end _ c.self.invariant.primitives_end c.remove_first.ensures)
