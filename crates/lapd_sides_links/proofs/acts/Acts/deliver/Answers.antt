use Rattle.std.proofs.Common.{arith, rules}
use Rattle.std.proofs.lemmas.List.{length-set}
use Rattle.lapd_sides_links.specs.declared.acts.TheConstants.{MOST_PRIMITIVES}
use Rattle.lapd_sides_links.proofs.WrittenOver.{primitive_behind, free_primitive}
use Rattle.lapd_sides_links.proofs.acts.Acts.deliver.Goals as goal

pub next_place-place-requires-clause-room : goal.next_place-place-requires-clause-room
next_place-place-requires-clause-room c =
    let fits = c.self.invariant in
    free_primitive c.self.inside.primitives.items c.self.inside.first_primitive
    c.self.inside.primitives_end MOST_PRIMITIVES _ fits.primitives_end
    (rw (← c.self.view_is) at c.requires) fits.primitive_room

pub invariant_of-self : goal.invariant_of-self
invariant_of-self c =
    let next = c.next_place-place in
    let fits = c.self.invariant in
    record {
      frame_room = fits.frame_room;
      primitive_room = search rules;
      frames_begin = fits.frames_begin;
      frames_end = fits.frames_end;
      primitives_begin = omega arith;
      primitives_end =
          omega (arith, length-set next.new.items.items next.result c.set_primitive.new.place);
      least = fits.least;
    }

pub returns : goal.returns
returns c =
    let next = c.next_place-place in
    rw (← c.self.view_is) (primitive_behind c.self.inside.primitives.items next.new.items.items
    c.self.inside.first_primitive c.self.inside.primitives_end next.new.first next.result
    next.new.end c.set_primitive.new.place _ _
    next.ensures.first next.ensures.within next.ensures.end next.ensures.same
    c.set_primitive.ensures)
