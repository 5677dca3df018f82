use Rattle.std.proofs.Common.{◌≡◌, ◌++◌, map, take, drop}
use Rattle.lapd_timers.specs.Due.{with_durations}
use Rattle.lapd_sides_links.proofs.timer_places.set_each.Given as goal

abbrev pub invariant-loop-timers : goal.invariant-loop-timers
invariant-loop-timers l =
    l.all ≡ map (with_durations l.durations) (take l.timers-index l.initial.all)
    ++ drop l.timers-index l.initial.all
