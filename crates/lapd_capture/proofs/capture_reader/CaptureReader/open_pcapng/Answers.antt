use Rattle.std.proofs.Common.{rules, Err, ap, ◌∙◌, drop}
use Rattle.lapd_capture.specs.Reader.{reading_of}
use Rattle.lapd_capture.specs.Reading.{after_section, block_after}
use Rattle.lapd_capture.proofs.Steps.{same_opening, section_begun, section_cut, section_fault}
use Rattle.lapd_capture.proofs.Taken.{all_taken, too_few}
use Rattle.lapd_capture.proofs.capture_reader.CaptureReader.open_pcapng.Goals as goal

pub returns-in-Part : goal.returns-in-Part
returns-in-Part g c = λ left e.
    section_cut (reading_of c.args.self.now left) c.args.magic.now left (search rules)
    (too_few _ _ _ c.take_all.new.octets left 8 c.in_ok-take_all.ensures.taken c.in-Part.is
    c.take_all.auto.octets e)

pub returns-in-Ok : goal.returns-in-Ok
returns-in-Ok g c = λ left e.
    let t =
    all_taken _ _ _ c.take_all.new.octets left 8 c.in_ok-take_all.ensures.taken c.in-All.is
    c.take_all.auto.octets e in
    let s = c.in-Ok.ensures.step (drop 8 left) t.2 in (
      s.0,
      s.1,
      ap after_section (section_begun (reading_of c.args.self.now left) c.args.magic.now left
          c.take_all.new.octets c.head_of.result (search rules) t.0 t.1 c.head_of.ensures)
          ∙ ap after_section s.2,
    )

pub returns-in-Err : goal.returns-in-Err
returns-in-Err g c = λ left e.
    let t =
    all_taken _ _ _ c.take_all.new.octets left 8 c.in_ok-take_all.ensures.taken c.in-All.is
    c.take_all.auto.octets e in
    let s = c.in-Err.ensures.step (drop 8 left) t.2 in
    same_opening g.R.Read.remaining _ _ (Err c.in-Err.fault) c.take_block.new.self
    (ap after_section (section_begun (reading_of c.args.self.now left) c.args.magic.now left
    c.take_all.new.octets c.head_of.result (search rules) t.0 t.1 c.head_of.ensures))
    (section_fault g.R.Read.remaining
    (block_after c.head_of.result (reading_of c.args.self.now (drop 8 left))) c.in-Err.fault
    c.take_block.new.self s)
