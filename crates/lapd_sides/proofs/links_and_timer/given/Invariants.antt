use Rattle.std.proofs.Common.{◌≡◌, drop}
use Rattle.std.specs.List.{All}
use Rattle.lapd_tei.specs.Out.{IsInRange, tei_given}
use Rattle.lapd_sides.proofs.links_and_timer.given.Given as goal

abbrev pub invariant-loop-out : goal.invariant-loop-out
invariant-loop-out l =
    (tei_given (drop l.out-index l.outs) ≡ tei_given l.outs)
    × All IsInRange (drop l.out-index l.outs)
