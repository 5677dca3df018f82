use Rattle.std.proofs.Common.{[], drop}
use Rattle.lapd_capture.specs.Reader.{reading_of}
use Rattle.lapd_capture.specs.Reading.{record_step}
use Rattle.lapd_capture.proofs.Steps.{ended, record_begun, record_cut, same_step}
use Rattle.lapd_capture.proofs.Taken.{all_taken, nothing_taken, part_taken}
use Rattle.lapd_capture.proofs.capture_reader.CaptureReader.next_record.Goals as goal

pub returns-in-All-clause-step : goal.returns-in-All-clause-step
returns-in-All-clause-step g c = λ left e.
    let t =
    all_taken _ _ _ c.take_all.new.octets left 16 c.in_ok-take_all.ensures.taken c.in-All.is
    c.take_all.auto.octets e in
    same_step g.R.Read.remaining _ _ c.take_record.result c.take_record.new.self
    (record_begun (reading_of c.args.self.now left) c.take_all.new.octets t.0 t.1)
    (c.take_record.ensures.step (drop 16 left) t.2)

pub returns-in-Part-clause-step : goal.returns-in-Part-clause-step
returns-in-Part-clause-step g c = λ left e.
    let t =
    part_taken _ _ _ c.take_all.new.octets left 16 c.in_ok-take_all.ensures.taken
    c.in-Part.is c.take_all.auto.octets e in
    record_cut (reading_of c.args.self.now left) t.0 t.1

pub returns-in-Nothing-clause-step : goal.returns-in-Nothing-clause-step
returns-in-Nothing-clause-step g c = λ left e.
    let t =
    nothing_taken _ _ _ c.take_all.new.octets left c.in_ok-take_all.ensures.taken
    c.in-Nothing.is e in
    ([], t.1, ended record_step (reading_of c.args.self.now left) t.0)
