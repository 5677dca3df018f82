use Rattle.std.proofs.Common.{◌≡◌, ◌≤◌, ◌+◌, ◌++◌, drop, length}
use Rattle.std.specs.List.{filter_map}
use Rattle.lapd_sides_links.specs.Effects.{outcome_of}
use Rattle.lapd_sides.proofs.links_and_timer.deliver_outcomes.Given as goal

abbrev pub invariant-loop-out : goal.invariant-loop-out
invariant-loop-out l =
    (l.acts.primitives ++ filter_map outcome_of (drop l.out-index l.outs)
    ≡ l.initial.acts.primitives ++ filter_map outcome_of l.outs)
    × ((l.acts.frames ≡ l.initial.acts.frames)
    × (length l.acts.primitives + length (drop l.out-index l.outs)
    ≤ length l.initial.acts.primitives + length l.outs))
