use Rattle.std.proofs.Common.{◌≡◌, ◌++◌, take}
use Rattle.std.specs.Vec.{vec_capacity}
use Rattle.lapd_sides_links.proofs.acts.copy_primitives.Given as goal

abbrev pub invariant-loop-primitive : goal.invariant-loop-primitive
invariant-loop-primitive l =
    (l.to.items ≡ l.initial.to.items ++ take l.primitive-index l.primitives)
    × (vec_capacity l.to ≡ vec_capacity l.initial.to)
