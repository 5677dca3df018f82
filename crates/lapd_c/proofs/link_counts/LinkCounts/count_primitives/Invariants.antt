use Rattle.std.proofs.Common.{◌≡◌, take}
use Rattle.std.specs.List.{fold}
use Rattle.lapd_c.specs.Counters.{primitive_counted}
use Rattle.lapd_c.proofs.link_counts.LinkCounts.count_primitives.Given as goal

abbrev pub invariant-loop-primitive : goal.invariant-loop-primitive
invariant-loop-primitive l =
    l.self ≡ fold primitive_counted l.initial.self (take l.primitive-index l.primitives)
