use Rattle.std.proofs.Common.{◌≡◌, map, take}
use Rattle.std.specs.List.{fold}
use Rattle.lapd_c.specs.Counters.{sent_counted}
use Rattle.lapd_c.proofs.link_counts.LinkCounts.count_frames.Given as goal

abbrev pub invariant-loop-frame : goal.invariant-loop-frame
invariant-loop-frame l =
    l.self
    ≡ fold (sent_counted l.own) l.initial.self (map (λ f. f.items) (take l.frame-index l.frames))
