use Rattle.std.proofs.Common.{◌≡◌}
use Rattle.lapd_sides.specs.AllTeis.{holds_below}
use Rattle.lapd_sides.proofs.all_teis.holds_any.Given as goal

abbrev pub invariant-loop-tei : goal.invariant-loop-tei
invariant-loop-tei l = l.any ≡ holds_below l.tei l.assigner.held
