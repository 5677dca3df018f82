use Rattle.std.proofs.Common.{rules, ◌-◌, length, subst, sym}
use Rattle.std.specs.Io.KnownBytes.{Consumes}
use Rattle.std.proofs.KnownBytes.{Consumes-trans, Consumes-kept}
use Rattle.lapd_port.proofs.Filling.{take-filled, take-filled_more}
use Rattle.lapd_capture.proofs.taking.fill.Goals as goal
use Rattle.lapd_capture.proofs.taking.fill.Goals.{in-Ok, in-Err+else-ne}

pub loop-read-preserved : goal.loop-read-preserved
loop-read-preserved g c = elim c.match-read.branch [
  | in-Ok w ↦ rw w.filled-is (record {
    same_length = search rules;
    within = let b = w.in-Ok.ensures.bound.0 in search rules;
    given =
        subst (Consumes _ _) (take-filled_more c.loop-read.filled
        (length c.loop-read.octets - c.loop-read.filled) w.in-Ok.count c.loop-read.octets
        c.read.new.buf c.loop-read.invariant.within w.in-Ok.ensures.bound.0)
        (Consumes-trans _ _ _ _ _ c.loop-read.invariant.given w.in-Ok.ensures.bytes.0);
  })
  | in-Err+else-ne w ↦ rw w.filled-is (record {
    same_length = search rules;
    within = search rules;
    given =
        subst (Consumes _ _) (sym (take-filled c.loop-read.filled
        (length c.loop-read.octets - c.loop-read.filled) c.loop-read.octets c.read.new.buf
        c.loop-read.invariant.within))
        (Consumes-kept _ _ _ _ c.loop-read.invariant.given w.in-Err.ensures.bytes);
  })
]
