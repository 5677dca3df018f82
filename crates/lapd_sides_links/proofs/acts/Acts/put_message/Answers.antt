use Rattle.std.proofs.Common.{◌∙◌, arith, rules}
use Rattle.std.proofs.lemmas.List.{length-set}
use Rattle.lapd_sides_links.specs.declared.acts.TheConstants.{MOST_FRAMES}
use Rattle.lapd_sides_links.proofs.WrittenOver.{frame_behind, free_frame, least_behind}
use Rattle.lapd_sides_links.proofs.acts.Acts.put_message.Goals as goal

pub next_place-place-requires-clause-room : goal.next_place-place-requires-clause-room
next_place-place-requires-clause-room c =
    let fits = c.self.invariant in
    free_frame c.self.inside.frames.items c.self.inside.first_frame c.self.inside.frames_end
    MOST_FRAMES _ fits.frames_end (rw (← c.self.view_is) at c.requires.room) fits.frame_room

pub invariant_of-self : goal.invariant_of-self
invariant_of-self c =
    let next = c.next_place-place in
    let fits = c.self.invariant in
    record {
      frame_room = search rules;
      primitive_room = fits.primitive_room;
      frames_begin = omega arith;
      frames_end = omega (arith, length-set next.new.items.items next.result c.set.new.self);
      primitives_begin = fits.primitives_begin;
      primitives_end = fits.primitives_end;
      least =
          least_behind c.self.inside.frames.items next.new.items.items c.self.inside.first_frame
          c.self.inside.frames_end next.new.first next.result next.new.end c.set.new.self
          next.ensures.first next.ensures.within next.ensures.end next.ensures.same search rules
          fits.least;
    }

pub returns : goal.returns
returns c =
    let next = c.next_place-place in
    rw (← c.self.view_is) (frame_behind c.self.inside.frames.items next.new.items.items
    c.self.inside.first_frame c.self.inside.frames_end next.new.first next.result
    next.new.end c.set.new.self _ _
    next.ensures.first next.ensures.within next.ensures.end next.ensures.same
    (c.set.ensures ∙ c.frame-octets.ensures))
