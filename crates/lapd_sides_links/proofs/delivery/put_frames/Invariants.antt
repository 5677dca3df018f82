-- put_frames
use Rattle.std.proofs.Common.{◌≡◌, ◌≤◌, ◌+◌, ◌++◌, drop, length}
use Rattle.std.specs.List.{filter_map}
use Rattle.lapd_link.specs.Link.{LinkRepresents, setup_of}
use Rattle.lapd_link_definition.specs.End.{End}
use Rattle.lapd_sides_links.specs.Shown.{made_by}
use Rattle.lapd_sides_links.proofs.delivery.put_frames.Given as goal

abbrev pub invariant-loop-out : goal.invariant-loop-out
invariant-loop-out l =
    ((e : End) → LinkRepresents l.link e
    → l.acts.frames ++ filter_map (made_by (setup_of l.link) e l.octets) (drop l.out-index l.outs)
    ≡ l.initial.acts.frames ++ filter_map (made_by (setup_of l.link) e l.octets) l.outs)
    × ((l.acts.primitives ≡ l.initial.acts.primitives)
    × (length l.acts.frames + length (drop l.out-index l.outs) ≤ length l.initial.acts.frames
    + length l.outs))
