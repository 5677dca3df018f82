use Rattle.std.proofs.Common.{◌≡◌, ◌≤◌, ◌+◌, ◌++◌, drop, length}
use Rattle.std.specs.List.{All, filter_map}
use Rattle.lapd_tei.specs.Out.{IsInRange}
use Rattle.lapd_sides_links.specs.Effects.{message_sent}
use Rattle.lapd_sides.proofs.links_and_timer.put_messages.Given as goal

abbrev pub invariant-loop-out : goal.invariant-loop-out
invariant-loop-out l =
    (l.acts.frames ++ filter_map (message_sent l.side) (drop l.out-index l.outs)
    ≡ l.initial.acts.frames ++ filter_map (message_sent l.side) l.outs)
    × ((l.acts.primitives ≡ l.initial.acts.primitives)
    × ((length l.acts.frames + length (drop l.out-index l.outs)
    ≤ length l.initial.acts.frames + length l.outs)
    × All IsInRange (drop l.out-index l.outs)))
