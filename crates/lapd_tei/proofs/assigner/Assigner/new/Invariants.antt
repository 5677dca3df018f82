use Rattle.std.proofs.Common.{◌≡◌, drop, replicate, false}
use Rattle.lapd_tei.specs.Assigner.{holding}
use Rattle.lapd_tei.proofs.assigner.Assigner.new.Given as goal

abbrev pub invariant-loop-tei : goal.invariant-loop-tei
invariant-loop-tei l =
    holding (replicate 127 false) l.known ≡ holding l.held (drop l.tei-index l.known)
