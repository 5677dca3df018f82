use Rattle.std.proofs.Common.{◌≡◌, drop}
use Rattle.lapd_tei.specs.Out.{tei_freed}
use Rattle.lapd_sides.proofs.links_and_timer.freed.Given as goal

abbrev pub invariant-loop-out : goal.invariant-loop-out
invariant-loop-out l = tei_freed (drop l.out-index l.outs) ≡ tei_freed l.outs
