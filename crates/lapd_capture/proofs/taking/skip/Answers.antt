use Rattle.std.proofs.Common.{rules, ◌-◌, ◌≤◌, drop, arith}
use Rattle.lapd_capture.proofs.Taken.{all_taken, skipped_fewer, skipped_more, too_few}
use Rattle.lapd_capture.proofs.taking.skip.Goals as goal

pub loop-left-preserved : goal.loop-left-preserved
loop-left-preserved g c =
    let fits : c.loop-left.left ≤ c.args.count = c.loop-left.invariant.fits in
    record {
      fits = omega arith;
      skipped = λ xs e.
          let p = c.loop-left.invariant.skipped xs e in
          let t =
          all_taken _ _ _ c.take_all.new.octets (drop (c.args.count - c.loop-left.left) xs)
          c.min-size.result c.in_ok-take_all.ensures.taken c.in-All.is (search rules) p.1 in
          skipped_more c.args.count c.loop-left.left c.min-size.result xs _ fits (search rules) p.0
          t.0 t.2;
    }

pub returns-in-Part : goal.returns-in-Part
returns-in-Part g c = record {
  skipped = λ xs e.
      let p = c.loop-left.invariant.skipped xs e in
      skipped_fewer c.args.count c.loop-left.left c.min-size.result xs c.loop-left.invariant.fits
      (search rules) p.0
      (too_few _ _ _ c.take_all.new.octets (drop (c.args.count - c.loop-left.left) xs)
      c.min-size.result c.in_ok-take_all.ensures.taken c.in-Part.is (search rules) p.1);
  err = tt;
}
