use Rattle.std.proofs.Common.{◌≡◌, drop}
use Rattle.lapd_sides_links.specs.Effects.{managed}
use Rattle.lapd_sides.proofs.links_and_timer.time_management.Given as goal

abbrev pub invariant-loop-out : goal.invariant-loop-out
invariant-loop-out l =
    managed l.now (drop l.out-index l.outs) l.timers ≡ managed l.now l.outs l.initial.timers
