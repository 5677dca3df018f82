use Rattle.std.proofs.Common.{drop}
use Rattle.lapd_capture.specs.Reader.{reading_of}
use Rattle.lapd_capture.proofs.Steps.{magic_cut, magic_taken, same_opening}
use Rattle.lapd_capture.proofs.Taken.{all_taken, too_few}
use Rattle.lapd_capture.proofs.capture_reader.CaptureReader.open.Goals as goal

pub returns-in-All : goal.returns-in-All
returns-in-All g c = λ left e.
    let t =
    all_taken _ _ _ c.take_all.new.octets left 4 c.in_ok-take_all.ensures.taken c.in-All.is
    c.take_all.auto.octets e in
    same_opening g.R.Read.remaining _ _ c.open_by_magic.result c.open_by_magic.new.self
    (magic_taken (reading_of c.args.self.now left) c.take_all.new.octets t.1)
    (c.open_by_magic.ensures (drop 4 left) t.2)

pub returns-in-Part : goal.returns-in-Part
returns-in-Part g c = λ left e.
    magic_cut (reading_of c.args.self.now left)
    (too_few _ _ _ c.take_all.new.octets left 4 c.in_ok-take_all.ensures.taken c.in-Part.is
    c.take_all.auto.octets e)
