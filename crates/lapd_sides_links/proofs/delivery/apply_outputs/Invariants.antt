use Rattle.std.proofs.Common.{◌≡◌, drop}
use Rattle.lapd_sides_links.specs.Effects.{timed}
use Rattle.lapd_sides_links.proofs.delivery.apply_outputs.Given as goal

abbrev pub invariant-loop-out : goal.invariant-loop-out
invariant-loop-out l =
    timed l.now (drop l.out-index l.outs) l.timers ≡ timed l.now l.outs l.initial.timers
