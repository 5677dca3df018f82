use Rattle.std.proofs.Common.{◌≡◌, ◌≤◌, ◌+◌, ◌++◌, drop, map, length}
use Rattle.std.specs.List.{filter_map}
use Rattle.lapd_link_machine.specs.Bounds.{primitive_count}
use Rattle.lapd_sides_links.specs.declared.primitive.Primitive.TheVariants.{Of}
use Rattle.lapd_sides_links.specs.Effects.{what_of}
use Rattle.lapd_sides_links.proofs.delivery.deliver_all.Given as goal

abbrev pub invariant-loop-out : goal.invariant-loop-out
invariant-loop-out l =
    (l.acts.primitives ++ map (Of l.id) (filter_map (what_of l.octets) (drop l.out-index l.outs))
    ≡ l.initial.acts.primitives ++ map (Of l.id) (filter_map (what_of l.octets) l.outs))
    × ((l.acts.frames ≡ l.initial.acts.frames)
    × (length l.acts.primitives + primitive_count (drop l.out-index l.outs)
    ≤ length l.initial.acts.primitives + primitive_count l.outs))
