use Rattle.std.proofs.Common.{rules, refl, ap, ◌∙◌, length, drop}
use lib.Seq.{take_at}
use Rattle.lapd_capture.specs.Reader.{reading_of}
use Rattle.lapd_capture.proofs.Taken.{all_taken, too_few}
use Rattle.lapd_capture.proofs.capture_reader.CaptureReader.take_body.Goals as goal

pub returns-in-All-clause-body : goal.returns-in-All-clause-body
returns-in-All-clause-body g c = λ left e.
    let t =
    all_taken _ _ _ c.take_all.new.octets left c.args.count c.in_ok-take_all.ensures.taken
    c.in-All.is (search rules) e in (
      t.0,
      t.2,
      ap (λ b. record (reading_of c.args.self.now (drop c.args.count left)) { body = b })
          (take_at c.take_all.new.octets
          (drop (length c.take_all.new.octets) c.resize.new.self.items)
          c.resize.new.self.len (search rules) ∙ t.1),
    )

pub returns-in-Part : goal.returns-in-Part
returns-in-Part g c = record {
  body = (
    refl,
    λ left e. too_few _ _ _ c.take_all.new.octets left c.args.count
        c.in_ok-take_all.ensures.taken c.in-Part.is (search rules) e,
  );
  len = tt;
}
