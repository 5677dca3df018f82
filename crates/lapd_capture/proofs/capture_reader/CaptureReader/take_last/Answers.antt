use Rattle.std.proofs.Common.{rules, refl, ◌<◌, drop, length, arith}
use Rattle.lapd_capture.proofs.Taken.{all_skipped, all_taken, fewer_skipped, last_missing, last_taken, too_few}
use Rattle.lapd_capture.proofs.capture_reader.CaptureReader.take_last.Goals as goal

pub returns-then-not-branch-clause-last : goal.returns-then-not-branch-clause-last
returns-then-not-branch-clause-last g c = (
  refl,
  λ left e.
      let few : length left < c.args.count =
      fewer_skipped c.args.count _ _ c.in_ok-skip.field-0 left c.in_ok-skip.ensures.skipped
      (search rules) e in
      omega arith,
)

pub returns-in-All-clause-last : goal.returns-in-All-clause-last
returns-in-All-clause-last g c = λ left e.
    let s =
    all_skipped c.args.count _ _ c.in_ok-skip.field-0 left c.in_ok-skip.ensures.skipped
    (search rules) e in
    let t =
    all_taken _ _ _ c.take_all.new.octets (drop c.args.count left) 4
    c.in_ok-take_all.ensures.taken c.in-All.is c.take_all.auto.octets s.1 in
    let u = last_taken c.args.count left c.take_all.new.octets _ s.0 t.0 t.2 in
    (u.0, t.1, u.1)

pub returns-in-Part-clause-last : goal.returns-in-Part-clause-last
returns-in-Part-clause-last g c = (
  refl,
  λ left e.
      let s =
      all_skipped c.args.count _ _ c.in_ok-skip.field-0 left c.in_ok-skip.ensures.skipped
      (search rules) e in
      last_missing c.args.count left s.0
      (too_few _ _ _ c.take_all.new.octets (drop c.args.count left) 4
      c.in_ok-take_all.ensures.taken c.in-Part.is c.take_all.auto.octets s.1),
)
