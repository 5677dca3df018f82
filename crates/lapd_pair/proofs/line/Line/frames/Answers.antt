use Rattle.std.proofs.Common.{ℕ, map, ap, arith}
use Rattle.arrayvec.specs.ArrayVec.{ArrayVec}
use Rattle.lapd_pair.proofs.Lines.{between}
use Rattle.lapd_pair.proofs.line.Line.frames.Goals as goal

pub returns-clause-octets : goal.returns-clause-octets
returns-clause-octets c =
    rw c.deref.ensures.value (ap (map (λ (frame : ArrayVec ℕ). frame.items))
    (between c.args.self.now.first c.args.self.now.end c.args.self.now.frames.items
    (omega arith)))
