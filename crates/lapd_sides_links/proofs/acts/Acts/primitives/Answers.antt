use Rattle.lapd_sides_links.proofs.WrittenOver.{slice_in_use}
use Rattle.lapd_sides_links.proofs.acts.Acts.primitives.Goals as goal

pub returns : goal.returns
returns c = rw (c.deref.ensures.value, ← c.self.view_is)
    (slice_in_use c.self.inside.primitives.items c.self.inside.first_primitive
    c.self.inside.primitives_end c.self.invariant.primitives_begin)
