use Rattle.std.proofs.Common.{◌≡◌, drop}
use Rattle.lapd_tei.specs.Assigner.{first_free, least_free}
use Rattle.lapd_tei.proofs.assigner.least_free.Given as goal

abbrev pub invariant-loop-tei : goal.invariant-loop-tei
invariant-loop-tei l = least_free l.held ≡ first_free l.tei (drop l.tei l.held)
